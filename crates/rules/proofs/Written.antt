-- The line that is written for an entry is a line, and it says that entry and no other. So lines with few digits are told by their text.
use Rattle.std.proofs.Common.{◌≡◌, ℕ, suc, ◌<◌, Bool, true, ◌&&◌, leb, List, [], ◌∷◌, ◌++◌, length, ℤ, pos, negsuc, Some, None, decimal, Option, sym, refl, ap, ◌∙◌, subst, inl, arith, length-append}
use Rattle.std.specs.Fmt.{signed_decimal}
use Rattle.std.specs.Prelude.{◌≢◌}
use Rattle.std.specs.List.{AllByRecursion}
use Rattle.std.proofs.lemmas.Str.Parse.{digit_at}
use Rattle.std.proofs.lemmas.Bool.{true≢false, and_parts, leb-true}
use Rattle.text.specs.declared.head.Head.{Head}
use Rattle.text.specs.declared.head.Head.TheVariants as head
use Rattle.text.specs.declared.head.Statement.TheVariants as entry
use Rattle.text.specs.declared.entry.PlaneKind.{PlaneKind}
use Rattle.text.specs.declared.entry.PlaneKind.TheVariants.{Line, Pack}
use Rattle.text.specs.declared.entry.What.{What}
use Rattle.text.specs.declared.entry.What.TheVariants.{Solids}
use Rattle.text.specs.Pieces.{Without, AllWithout, pieces, glued}
use Rattle.text.specs.Text.{FirstLine}
use Rattle.text.specs.Heads.{word, head_of}
use Rattle.text.specs.Number.{Numeral, SixDigits}
use Rattle.text.specs.Entries.{Entry, spelt, Few, kind_word, what_word}
use Rattle.text.specs.Order.{MayFollow}
use Rattle.text.specs.Lines.{Parted, Reads}
use Rattle.text.specs.Spelling.{line_of, written}
use Rattle.text.proofs.Cuts.{without_from, pieces-glued}
use Rattle.text.proofs.Decimals.{numeral_digits}
use Rattle.text.proofs.Unique.{same_cut, same_entry, same_word, first_of}
use Rattle.rules.specs.Job.{AllFew}

-- a text of bytes from 32 on, which has neither tab nor line end
abbrev visible : List ℕ → Bool
visible [] = true
visible (c ∷ cs) = leb 32 c && visible cs

without-visible : (b : ℕ) (l : List ℕ) → b < 32 → visible l ≡ true → Without b l
without-visible b [] low v = tt
without-visible b (c ∷ cs) low v =
    let p = and_parts (leb 32 c) (visible cs) v in
    (λ e. omega (arith, e, leb-true 32 c p.0), without-visible b cs low p.1)

visible_word : (h : Head) → visible (word h) ≡ true
visible_word head.Plan = refl
visible_word head.Ground = refl
visible_word head.Frame = refl
visible_word head.Corner = refl
visible_word head.Face = refl
visible_word head.Lay = refl
visible_word head.Cast = refl

visible_kind : (k : PlaneKind) → visible (kind_word k) ≡ true
visible_kind Line = refl
visible_kind Pack = refl

visible_what : (w : What) → visible (what_word w) ≡ true
visible_what Solids = refl

-- no part of a line has a tab or a line end
module _ (b : ℕ) (low : b < 32) where
  without-word : (h : Head) → Without b (word h)
  without-word h = without-visible b (word h) low (visible_word h)

  without-kind : (k : PlaneKind) → Without b (kind_word k)
  without-kind k = without-visible b (kind_word k) low (visible_kind k)

  without-what : (w : What) → Without b (what_word w)
  without-what w = without-visible b (what_word w) low (visible_what w)

  without-decimal : (n : ℕ) → n < 1000000 → Without b (decimal n)
  without-decimal n few =
      let h : Numeral (decimal n) n = record { few = few; text = refl } in
      without_from b (decimal n) (λ k lt e. omega (arith, low, e, (digit_at (decimal n) k (numeral_digits _ n h) lt).0))

  without-signed : (z : ℤ) → SixDigits z → Without b (signed_decimal z)
  without-signed (pos n) few = without-decimal n few
  without-signed (negsuc n) few = (λ e. omega arith, without-decimal (suc n) (omega arith))

  without-parts : (e : Entry) → Few e → AllWithout b (word (head_of e) ∷ spelt e)
  without-parts (entry.Plan w r k) f = (without-word head.Plan, (without-signed w f.0, (without-signed r f.1, (without-kind k, tt))))
  without-parts (entry.Ground g) f = (without-word head.Ground, (without-signed g f, tt))
  without-parts (entry.Frame c0 r0 c1 r1) f = (without-word head.Frame, (without-signed c0 f.0, (without-signed r0 f.1, (without-signed c1 f.2, (without-signed r1 f.3, tt)))))
  without-parts (entry.Corner x y z) f = (without-word head.Corner, (without-signed x f.0, (without-signed y f.1, (without-signed z f.2, tt))))
  without-parts (entry.Face p q r) f = (without-word head.Face, (without-signed p f.0, (without-signed q f.1, (without-signed r f.2, tt))))
  without-parts (entry.Lay w) f = (without-word head.Lay, (without-what w, tt))
  without-parts (entry.Cast w x y z) f = (without-word head.Cast, (without-what w, (without-signed x f.0, (without-signed y f.1, (without-signed z f.2, tt)))))

pub all-++ : {X : Type 0} (P : X → Type 0) (xs ys : List X) → AllByRecursion P xs → AllByRecursion P ys → AllByRecursion P (xs ++ ys)
all-++ P [] ys p q = q
all-++ P (x ∷ xs) ys p q = (p.0, all-++ P xs ys p.1 q)

without-glued : (b s : ℕ) (ps : List (List ℕ)) → (s ≡ b → ⊥) → AllWithout b ps → Without b (glued s ps)
without-glued b s [] ne w = tt
without-glued b s (p ∷ []) ne w = w.0
without-glued b s (p ∷ q ∷ ps) ne w = all-++ (λ c. c ≢ b) p (s ∷ glued s (q ∷ ps)) w.0 (ne, without-glued b s (q ∷ ps) ne w.1)

-- the line that is written for an entry is the first of a text that begins with it
pub line_first : (e : Entry) (to : List ℕ) → Few e → FirstLine (line_of e ++ 10 ∷ to) (line_of e) true to
line_first e to few =
    record {
      plain = without-glued 10 9 (word (head_of e) ∷ spelt e) (λ p. omega arith) (without-parts 10 (omega arith) e few);
      whole = refl;
      last = λ p. absurd (true≢false p);
    }

-- its parts are the head and the fields of the entry
pub line_parts : (e : Entry) → Few e → Parted (line_of e) (head_of e) (spelt e)
line_parts e few = pieces-glued 9 (word (head_of e) ∷ spelt e) (omega arith) (without-parts 9 (omega arith) e few)

-- it says the entry
pub line_reads : (o : Option Head) (e : Entry) → MayFollow o (head_of e) → Few e → Reads o (line_of e) true e
line_reads o e placed few =
    record {
      fields = spelt e;
      headed = record { whole = refl; parts = line_parts e few; placed = placed };
      says = record { kind = refl; text = refl; few = few };
    }

-- ---- two texts that begin with a written line
pub record SameStart (x y : Entry) (to un : List ℕ) : Type 0 where
  pub entry : x ≡ y
  pub next : to ≡ un

-- there is a place where a line with this head may stand
placed_somewhere : (h : Head) → (o : Option Head) × MayFollow o h
placed_somewhere head.Plan = (None, refl)
placed_somewhere head.Ground = (Some head.Plan, inl (omega arith, λ _. refl))
placed_somewhere head.Frame = (Some head.Ground, inl (omega arith, λ z. absurd (omega arith)))
placed_somewhere head.Corner = (Some head.Ground, inl (omega arith, λ z. absurd (omega arith)))
placed_somewhere head.Face = (Some head.Ground, inl (omega arith, λ z. absurd (omega arith)))
placed_somewhere head.Lay = (Some head.Ground, inl (omega arith, λ z. absurd (omega arith)))
placed_somewhere head.Cast = (Some head.Ground, inl (omega arith, λ z. absurd (omega arith)))

same_line : (x y : Entry) → Few x → Few y → line_of x ≡ line_of y → x ≡ y
same_line x y few less e =
    let heads : head_of x ≡ head_of y = same_word _ _ (first_of (sym (line_parts x few) ∙ ap (pieces 9) e ∙ line_parts y less)) in
    let o = placed_somewhere (head_of y) in
    let r : Reads o.0 (line_of x) true x = line_reads o.0 x (subst (MayFollow o.0) (sym heads) o.1) few in
    same_entry o.0 (line_of y) true x y (subst (λ (l : List ℕ). Reads o.0 l true x) e r) (line_reads o.0 y o.1 less)

pub same_start : (x y : Entry) (to un : List ℕ) → Few x → Few y → line_of x ++ 10 ∷ to ≡ line_of y ++ 10 ∷ un → SameStart x y to un
same_start x y to un few less e =
    let c = same_cut _ (line_of x) (line_of y) to un true true (line_first x to few) (subst (λ (z : List ℕ). FirstLine z (line_of y) true un) (sym e) (line_first y un less)) in
    record { entry = same_line x y few less c.line; next = c.next }

-- lines with few digits are told by their text
pub same_written : (es fs : List Entry) → AllFew es → AllFew fs → written es ≡ written fs → es ≡ fs
same_written [] [] p q e = refl
same_written [] (y ∷ fs) p q e = absurd (omega (arith, ap length e, length-append (line_of y) (10 ∷ written fs)))
same_written (x ∷ es) [] p q e = absurd (omega (arith, ap length e, length-append (line_of x) (10 ∷ written es)))
same_written (x ∷ es) (y ∷ fs) p q e =
    let s = same_start x y (written es) (written fs) p.0 q.0 e in
    let rec = same_written es fs p.1 q.1 s.next in
    λ i. s.entry i ∷ rec i
