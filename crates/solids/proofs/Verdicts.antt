-- What a misfit says, and that each verdict on tables is the only one.
use Rattle.std.proofs.Common.{◌≡◌, ℕ, zero, suc, ◌<◌, ◌≤◌, false, eqb, ◌⊎◌, List, length, get_or, sym, refl, ap, ◌∙◌, subst, ⊎_elim, arith}
use Rattle.std.proofs.lemmas.Bool.{cases_order, cases_eq, cases_lt, eqb-false}
use Rattle.std.proofs.lemmas.List.{ext_get_or}
use Rattle.geometry.specs.declared.units.Point.{Point}
use Rattle.geometry.specs.declared.refusal.Refusal.TheVariants.{Count, Empty, Coordinate, Corner, Side}
use Rattle.solids.specs.Tables.{sides, misfit, First, InsideAt, NumberedAt, PairedAt, PartneredAt, Counted, Filled, Inside, Numbered, Paired, Partnered, OneVerdict}
use Rattle.solids.specs.Tables.{Unmatched, many_corners, many_triangles, other_length, no_triangle, outside, misnumbered, unpaired}
use Rattle.solids.specs.Tables.{Unloaded, unmatched, mispartnered}
use Rattle.solids.specs.declared.solid.Triangle.{Triangle}
use Rattle.solids.specs.declared.misfit.Misfit.{Misfit}
use Rattle.solids.specs.declared.misfit.Site.TheVariants.{Nowhere, Corner as AtCorner, Triangle as AtTriangle, Place as AtPlace, Partners as AtPartners}

-- what matches no list of another length n matches no list of this one's
pub unmatched_at :
    {cs : List Point} {ts : List Triangle} {ps : List ℕ} {e : Misfit} {n : ℕ} → Unmatched cs ts n e → n ≡ length ps → Unloaded cs ts ps e
unmatched_at u h = unmatched (rw (sym h) u)

-- tables that have a triangle, as a test tells it
pub filled_unless :
    {cs : List Point} {ts : List Triangle} {m : ℕ} → Counted cs ts m → eqb (length ts) 0 ≡ false → Filled cs ts m
filled_unless {cs} {ts} {m} c e = let ne = eqb-false (length ts) 0 e in record { counted = c; some = positive (length ts) ne }
  where
    positive : (n : ℕ) → (n ≡ 0 → ⊥) → 0 < n
    positive n ne = ⊎_elim (λ (l : n < 1). absurd (ne (omega arith))) (λ (l : 1 ≤ n). l) (cases_lt n 1)

-- the first failure is one number
pub first_once : (Good : ℕ → Type 0) (n i j : ℕ) → First Good n i → First Good n j → i ≡ j
first_once Good n i j f g =
    ⊎_elim
    (λ (e : i ≡ j). e)
    (λ (o : (i < j) ⊎ (j < i)).
    ⊎_elim (λ (l : i < j). absurd (f.fails (g.before i l))) (λ (l : j < i). absurd (g.fails (f.before j l))) o)
    (cases_order i j)

-- ---- the seven tests of corners, triangles and a length, by their rank
module _ (cs : List Point) (ts : List Triangle) (m : ℕ) where
  abbrev Passes : ℕ → Type 0
  Passes zero = length cs ≤ 4096
  Passes (suc zero) = length ts ≤ 4096
  Passes (suc (suc zero)) = m ≡ sides ts
  Passes (suc (suc (suc zero))) = 0 < length ts
  Passes (suc (suc (suc (suc zero)))) = (i : ℕ) → i < length cs → InsideAt cs i
  Passes (suc (suc (suc (suc (suc zero))))) = (k : ℕ) → k < length ts → NumberedAt (length cs) ts k
  Passes (suc (suc (suc (suc (suc (suc r)))))) = (q : ℕ) → q < sides ts → PairedAt ts q

  -- what is told where the test of a rank is the first that fails
  abbrev Tells : ℕ → Misfit → Type 0
  Tells zero e = e ≡ misfit Count (AtCorner 4096)
  Tells (suc zero) e = e ≡ misfit Count (AtTriangle 4096)
  Tells (suc (suc zero)) e = e ≡ misfit Count (AtPartners m)
  Tells (suc (suc (suc zero))) e = e ≡ misfit Empty Nowhere
  Tells (suc (suc (suc (suc zero)))) e = (i : ℕ) × (First (InsideAt cs) (length cs) i × (e ≡ misfit Coordinate (AtCorner i)))
  Tells (suc (suc (suc (suc (suc zero))))) e =
      (k : ℕ) × (First (NumberedAt (length cs) ts) (length ts) k × (e ≡ misfit Corner (AtTriangle k)))
  Tells (suc (suc (suc (suc (suc (suc r)))))) e = (q : ℕ) × (First (PairedAt ts) (sides ts) q × (e ≡ misfit Side (AtPlace q)))

  abbrev AllBelow : ℕ → Type 0
  AllBelow zero = Unit {0}
  AllBelow (suc r) = AllBelow r × Passes r

  one_below : (n r : ℕ) → r < n → AllBelow n → Passes r
  one_below zero r h all = absurd (omega arith)
  one_below (suc n) r h all =
      ⊎_elim (λ (e : r ≡ n). subst Passes (sym e) all.1) (λ (ne : r ≡ n → ⊥). one_below n r (omega arith) all.0) (cases_eq r n)

  record Stopped (e : Misfit) : Type 0 where
    rank : ℕ
    low : rank ≤ 6
    before : AllBelow rank
    fails : Passes rank → ⊥
    tells : Tells rank e

  counted_below : Counted cs ts m → AllBelow 3
  counted_below c = (((tt, c.corners_few), c.triangles_few), c.long)

  filled_below : Filled cs ts m → AllBelow 4
  filled_below f = (counted_below f.counted, f.some)

  inside_below : Inside cs ts m → AllBelow 5
  inside_below i = (filled_below i.filled, i.all)

  numbered_below : Numbered cs ts m → AllBelow 6
  numbered_below n = (inside_below n.inside, n.all)

  paired_below : Paired cs ts m → AllBelow 7
  paired_below p = (numbered_below p.numbered, p.all)

  stopped : {e : Misfit} → Unmatched cs ts m e → Stopped e
  stopped (many_corners h) = record { rank = 0; low = omega arith; before = tt; fails = λ p. omega arith; tells = refl }
  stopped (many_triangles a h) = record { rank = 1; low = omega arith; before = (tt, a); fails = λ p. omega arith; tells = refl }
  stopped (other_length a b h) = record { rank = 2; low = omega arith; before = ((tt, a), b); fails = h; tells = refl }
  stopped (no_triangle c h) = record { rank = 3; low = omega arith; before = counted_below c; fails = λ p. omega arith; tells = refl }
  stopped (outside {i} f h) =
      record { rank = 4; low = omega arith; before = filled_below f; fails = λ all. h.fails (all i h.below); tells = (i, (h, refl)) }
  stopped (misnumbered {k} f h) =
      record { rank = 5; low = omega arith; before = inside_below f; fails = λ all. h.fails (all k h.below); tells = (k, (h, refl)) }
  stopped (unpaired {q} f h) =
      record { rank = 6; low = omega arith; before = numbered_below f; fails = λ all. h.fails (all q h.below); tells = (q, (h, refl)) }

  same_rank : {e f : Misfit} (a : Stopped e) (b : Stopped f) → a.rank ≡ b.rank
  same_rank a b =
      ⊎_elim
      (λ (e : a.rank ≡ b.rank). e)
      (λ (o : (a.rank < b.rank) ⊎ (b.rank < a.rank)).
      ⊎_elim
      (λ (l : a.rank < b.rank). absurd (a.fails (one_below b.rank a.rank l b.before)))
      (λ (l : b.rank < a.rank). absurd (b.fails (one_below a.rank b.rank l a.before)))
      o)
      (cases_order a.rank b.rank)

  told_once : (r : ℕ) (e f : Misfit) → Tells r e → Tells r f → e ≡ f
  told_once zero e f a b = a ∙ sym b
  told_once (suc zero) e f a b = a ∙ sym b
  told_once (suc (suc zero)) e f a b = a ∙ sym b
  told_once (suc (suc (suc zero))) e f a b = a ∙ sym b
  told_once (suc (suc (suc (suc zero)))) e f a b =
      a.1.1 ∙ ap (λ i. misfit Coordinate (AtCorner i)) (first_once (InsideAt cs) (length cs) a.0 b.0 a.1.0 b.1.0) ∙ sym b.1.1
  told_once (suc (suc (suc (suc (suc zero))))) e f a b =
      a.1.1
      ∙ ap (λ k. misfit Corner (AtTriangle k)) (first_once (NumberedAt (length cs) ts) (length ts) a.0 b.0 a.1.0 b.1.0)
      ∙ sym b.1.1
  told_once (suc (suc (suc (suc (suc (suc r)))))) e f a b =
      a.1.1 ∙ ap (λ q. misfit Side (AtPlace q)) (first_once (PairedAt ts) (sides ts) a.0 b.0 a.1.0 b.1.0) ∙ sym b.1.1

  pub unmatched_once : (e f : Misfit) → Unmatched cs ts m e → Unmatched cs ts m f → e ≡ f
  unmatched_once e f d c =
      let a = stopped d in
      let b = stopped c in
      told_once b.rank e f (subst (λ r. Tells r e) (same_rank a b) a.tells) b.tells

  pub unmatched_unpaired : (e : Misfit) → Unmatched cs ts m e → Paired cs ts m → ⊥
  unmatched_unpaired e d p = let a = stopped d in let l = a.low in a.fails (one_below 7 a.rank (omega arith) (paired_below p))

-- ---- tables
pub partnered_paired : (cs : List Point) (ts : List Triangle) (ps : List ℕ) → Partnered cs ts ps → Paired cs ts (length ps)
partnered_paired cs ts ps p = record { numbered = p.numbered; all = λ q h. (get_or ps q 0, p.all q h) }

pub unloaded_once : (cs : List Point) (ts : List Triangle) (ps : List ℕ) (e f : Misfit) → Unloaded cs ts ps e → Unloaded cs ts ps f → e ≡ f
unloaded_once cs ts ps e f (unmatched a) (unmatched b) = unmatched_once cs ts (length ps) e f a b
unloaded_once cs ts ps e f (unmatched a) (mispartnered {q} p h) = absurd (unmatched_unpaired cs ts (length ps) e a p)
unloaded_once cs ts ps e f (mispartnered {q} p h) (unmatched b) = absurd (unmatched_unpaired cs ts (length ps) f b p)
unloaded_once cs ts ps e f (mispartnered {q} p h) (mispartnered {q = r} s k) =
    ap (λ i. misfit Side (AtPlace i)) (first_once (PartneredAt ts ps) (sides ts) q r h k)

pub unloaded_unpartnered : (cs : List Point) (ts : List Triangle) (ps : List ℕ) (e : Misfit) → Unloaded cs ts ps e → Partnered cs ts ps → ⊥
unloaded_unpartnered cs ts ps e (unmatched a) p = unmatched_unpaired cs ts (length ps) e a (partnered_paired cs ts ps p)
unloaded_unpartnered cs ts ps e (mispartnered {q} _ h) p = h.fails (p.all q h.below)

long : (cs : List Point) (ts : List Triangle) (ps : List ℕ) → Partnered cs ts ps → length ps ≡ sides ts
long cs ts ps p = p.numbered.inside.filled.counted.long

pub partnered_once : (cs : List Point) (ts : List Triangle) (ps ps' : List ℕ) → Partnered cs ts ps → Partnered cs ts ps' → ps ≡ ps'
partnered_once cs ts ps ps' p p' =
    ext_get_or 0 ps ps' (long cs ts ps p ∙ sym (long cs ts ps' p'))
    (λ q h.
    let l : q < sides ts = let e = long cs ts ps p in omega arith in
    let a = p.all q l in
    (p'.all q l).reverse_once (get_or ps q 0) a.in_range a.reverse)

pub one_verdict : OneVerdict
one_verdict = (unmatched_once, unloaded_once, unloaded_unpartnered, partnered_once)
