-- A list that is cut at the first place of a byte.
use Rattle.std.proofs.Common.{◌≡◌, ℕ, ◌+◌, ◌-◌, ◌<◌, ◌≤◌, Bool, true, false, cond, eqb, leb, ltb, List, [], ◌∷◌, ◌++◌, length, get_or, take, drop, sym, refl, ap, ◌∙◌, subst, ⊎_elim, arith, length-drop, take-append-drop, length-take, get_or-take}
use Rattle.std.specs.Int.{from_bool}
use Rattle.std.specs.Prelude.{◌≢◌}
use Rattle.std.proofs.lemmas.List.Elements.{recursion_from_All, All-from_get_or}
use Rattle.std.proofs.lemmas.List.{take_all, drop_all, drop-drop, drop_more, append-nil}
use Rattle.std.proofs.lemmas.Bool.{true≢false, eqb-true, eq-eqb, ne_eqb, le-leb, lt-leb, cond-true, cond-false, cond_both, cases_lt, ltb-true, ltb-false}
use Rattle.text.specs.Pieces.{Without, onto, pieces, glued, AllWithout}
use Rattle.text.specs.Text.{FirstLine}

pub without_from : (b : ℕ) (l : List ℕ) → ((k : ℕ) → k < length l → get_or l k 0 ≡ b → ⊥) → Without b l
without_from b l h = recursion_from_All (λ c. c ≢ b) l (All-from_get_or (λ c. c ≢ b) l 0 h)

pub pieces-last : (b : ℕ) (p : List ℕ) → Without b p → pieces b p ≡ p ∷ []
pieces-last b [] w = refl
pieces-last b (c ∷ cs) w = cond-false (eqb c b) _ _ (ne_eqb c b w.0) ∙ ap (onto c) (pieces-last b cs w.1)

pub pieces-cut : (b : ℕ) (p l : List ℕ) → Without b p → pieces b (p ++ b ∷ l) ≡ p ∷ pieces b l
pieces-cut b [] l w = cond-true (eqb b b) _ _ (eq-eqb b b refl)
pieces-cut b (c ∷ cs) l w = cond-false (eqb c b) _ _ (ne_eqb c b w.0) ∙ ap (onto c) (pieces-cut b cs l w.1)

-- the parts of a text are the only ones that have no b and are the text with b between them
pub pieces-glued : (b : ℕ) (ps : List (List ℕ)) → 0 < length ps → AllWithout b ps → pieces b (glued b ps) ≡ ps
pieces-glued b [] some w = absurd (omega arith)
pieces-glued b (p ∷ []) some w = pieces-last b p w.0
pieces-glued b (p ∷ q ∷ ps) some w =
    pieces-cut b p (glued b (q ∷ ps)) w.0 ∙ ap (λ (r : List (List ℕ)). p ∷ r) (pieces-glued b (q ∷ ps) (omega arith) w.1)

-- up to the first b of a text, or to its end
module _ (b : ℕ) (l : List ℕ) (end : ℕ) where
  part_without : ((k : ℕ) → k < end → get_or l k 0 ≡ b → ⊥) → Without b (take end l)
  part_without before =
      without_from b (take end l) (λ k lt e.
      let lt' : k < end = omega (arith, lt, length-take end l) in
      before k lt' (sym (get_or-take end l k 0 lt') ∙ e))

  part_cut : end < length l → get_or l end 0 ≡ b → l ≡ take end l ++ b ∷ drop (end + 1) l
  part_cut lt e = sym (take-append-drop end l) ∙ ap (λ (r : List ℕ). take end l ++ r) (drop_more l end 0 lt ∙ ap (λ (c : ℕ). c ∷ drop (end + 1) l) e)

-- what is left of l from a place on is r, and `end` is the first place of b in it, or its length where there is none
module _ (b : ℕ) (l r : List ℕ) (from end : ℕ) (is : r ≡ drop from l) (before : (k : ℕ) → k < end → get_or r k 0 ≡ b → ⊥) (found : end < length r → get_or r end 0 ≡ b) where
  behind : (n : ℕ) → drop n r ≡ drop (from + n) l
  behind n = ap (drop n) is ∙ drop-drop n from l

  -- its parts are the one up to that place, and those behind it
  pub parts_more : from ≤ length l → cond (leb from (length l)) (pieces b (drop from l)) [] ≡ take end r ∷ cond (leb (from + (end + 1)) (length l)) (pieces b (drop (from + (end + 1)) l)) []
  parts_more le =
      let plain = part_without b r end before in
      let long : length r ≡ length l - from = ap length is ∙ length-drop from l in
      let first : cond (leb from (length l)) (pieces b (drop from l)) [] ≡ pieces b r = cond-true (leb from (length l)) _ _ (le-leb from (length l) le) ∙ ap (pieces b) (sym is) in
      let onto_rest : (ps : List (List ℕ)) → ps ≡ cond (leb (from + (end + 1)) (length l)) (pieces b (drop (from + (end + 1)) l)) [] → take end r ∷ ps ≡ take end r ∷ cond (leb (from + (end + 1)) (length l)) (pieces b (drop (from + (end + 1)) l)) [] = λ ps e. ap (λ (ps : List (List ℕ)). take end r ∷ ps) e in
      ⊎_elim
      (λ (lt : end < length r).
      first ∙ ap (pieces b) (part_cut b r end lt (found lt)) ∙ pieces-cut b (take end r) (drop (end + 1) r) plain
      ∙ onto_rest _ (ap (pieces b) (behind (end + 1)) ∙ sym (cond-true (leb (from + (end + 1)) (length l)) _ _ (le-leb (from + (end + 1)) (length l) (omega arith)))))
      (λ (ge : length r ≤ end).
      first ∙ ap (pieces b) (sym (take_all end r ge)) ∙ pieces-last b (take end r) plain
      ∙ onto_rest _ (sym (cond-false (leb (from + (end + 1)) (length l)) _ _ (lt-leb (from + (end + 1)) (length l) (omega arith)))))
      (cases_lt end (length r))

length-onto : (c : ℕ) (ps : List (List ℕ)) → length (onto c ps) ≡ length ps
length-onto c [] = refl
length-onto c (p ∷ ps) = refl

pub pieces-some : (b : ℕ) (l : List ℕ) → 0 < length (pieces b l)
pieces-some b [] = omega arith
pieces-some b (c ∷ cs) =
    cond_both (eqb c b) ([] ∷ pieces b cs) (onto c (pieces b cs)) (λ (ps : List (List ℕ)). 0 < length ps) (λ e. omega arith)
    (λ e. omega (arith, length-onto c (pieces b cs), pieces-some b cs))

glued-onto : (b c : ℕ) (ps : List (List ℕ)) → 0 < length ps → glued b (onto c ps) ≡ c ∷ glued b ps
glued-onto b c [] some = absurd (omega arith)
glued-onto b c (p ∷ []) some = refl
glued-onto b c (p ∷ q ∷ ps) some = refl

glued-empty : (b : ℕ) (ps : List (List ℕ)) → 0 < length ps → glued b ([] ∷ ps) ≡ b ∷ glued b ps
glued-empty b [] some = absurd (omega arith)
glued-empty b (p ∷ ps) some = refl

-- the parts of a text, with b between them again, are the text
pub glued-pieces : (b : ℕ) (l : List ℕ) → glued b (pieces b l) ≡ l
glued-pieces b [] = refl
glued-pieces b (c ∷ cs) =
    cond_both (eqb c b) ([] ∷ pieces b cs) (onto c (pieces b cs)) (λ (ps : List (List ℕ)). glued b ps ≡ c ∷ cs)
    (λ e. glued-empty b (pieces b cs) (pieces-some b cs) ∙ ap (λ (l : List ℕ). b ∷ l) (glued-pieces b cs) ∙ ap (λ (x : ℕ). x ∷ cs) (sym (eqb-true c b e)))
    (λ e. glued-onto b c (pieces b cs) (pieces-some b cs) ∙ ap (λ (l : List ℕ). c ∷ l) (glued-pieces b cs))

-- the first line of a text ends at its first byte 10, or else at its end
pub first_line : (l r : List ℕ) (from end n : ℕ) (ended : Bool) → r ≡ drop from l → 0 < length r → ((k : ℕ) → k < end → get_or r k 0 ≡ 10 → ⊥) → (end < length r → get_or r end 0 ≡ 10) → ended ≡ ltb end (length r) → n ≡ from_bool ended → FirstLine (drop from l) (take end r) ended (drop (from + (end + n)) l)
first_line l r from end n true is some before found test one =
    let lt : end < length r = ltb-true end (length r) (sym test) in
    record {
      plain = part_without 10 r end before;
      whole = sym is ∙ part_cut 10 r end lt (found lt) ∙ ap (λ (t : List ℕ). take end r ++ 10 ∷ t) (behind 10 l r from end is before found (end + 1) ∙ ap (λ (m : ℕ). drop (from + (end + m)) l) (sym one));
      last = λ e. absurd (true≢false e);
    }
first_line l r from end n false is some before found test none =
    let ge : length r ≤ end = ltb-false end (length r) (sym test) in
    let all : take end r ≡ r = take_all end r ge in
    record {
      plain = part_without 10 r end before;
      whole = sym is ∙ sym all ∙ sym (append-nil _);
      last = λ e. (subst (λ (t : List ℕ). 0 < length t) (sym all) some, sym (behind 10 l r from end is before found (end + n)) ∙ drop_all (end + n) r (omega arith));
    }
