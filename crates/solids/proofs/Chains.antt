-- Walks along the chains of places.
use Rattle.std.proofs.Common.{◌≡◌, ℕ, suc, ◌+◌, ◌%◌, ◌<◌, ◌≤◌, true, false, ◌&&◌, eqb, ◌⊎◌, List, length, get_or, set, replicate, is_some, Some, None, Option, sym, refl, ap, ◌∙◌, subst, ⊎_elim, add_comm, arith, get_or-set_other, get_or-set_same, MatchOption}
use Rattle.std.proofs.lemmas.List.{get_or-replicate}
use Rattle.std.proofs.lemmas.Bool.{cases_lt, cases_eq, cases_order, and_parts, and_cases, eqb-true, eqb-false, true≢false}
use Rattle.solids.specs.Tables.{sides, side_start, side_end, Same, Reverse, Partners, PairedAt}
use Rattle.solids.specs.Chains.{mixed, key_of, key_at, Leads, Linked}
use Rattle.solids.specs.declared.sides.Side.{Side}
use Rattle.solids.specs.declared.solid.Triangle.{Triangle}

-- ---- keys
pub key_as : (a b c d : ℕ) → a ≡ c → b ≡ d → key_of a b ≡ key_of c d
key_as a b c d e f = ap (λ x. key_of x b) e ∙ ap (λ x. key_of c x) f

pub same_key : (ts : List Triangle) (p q : ℕ) → Same ts p q → key_at ts p ≡ key_at ts q
same_key ts p q e = key_as (side_start ts p) (side_end ts p) (side_start ts q) (side_end ts q) e.0 e.1

pub reverse_key : (ts : List Triangle) (p q : ℕ) → Reverse ts p q → key_at ts p ≡ key_at ts q
reverse_key ts p q e =
    key_as (side_start ts p) (side_end ts p) (side_end ts q) (side_start ts q) e.0 e.1
    ∙ ap (λ n. n % 4096) (add_comm (mixed (side_end ts q)) (mixed (side_start ts q)))

pub key_below : (ts : List Triangle) (q : ℕ) → key_at ts q < 4096
key_below ts q = below (mixed (side_start ts q) + mixed (side_end ts q))
  where
    below : (n : ℕ) → n % 4096 < 4096
    below n = omega arith

-- ---- the chains grow by one place
-- no place is in a chain yet
pub linked_none : (ts : List Triangle) (links : List ℕ) → Linked ts 0 (replicate 4096 0) links
linked_none ts links =
    record {
      first = λ k h.
          let e : ◌≡◌ {A = ℕ} (get_or (replicate 4096 0) k 0) 0 = get_or-replicate 4096 k 0 0 h in
          record { within = omega arith; here = λ r i. absurd (omega arith); last = λ r _ l _. absurd (omega arith) };
      next = λ p h. absurd (omega arith);
    }

module _ (ts : List Triangle) (n : ℕ) (heads links : List ℕ) where
  -- a head that the new place leaves as it was
  other_head : (k h : ℕ) → Leads ts k n h → (key_at ts n ≡ k → ⊥) → Leads ts k (n + 1) h
  other_head k h l ne =
      record {
        within = let w = l.within in omega arith;
        here = l.here;
        last = λ r a b e.
            ⊎_elim (λ (s : r < n). l.last r a s e) (λ (s : n ≤ r). let same : r ≡ n = omega arith in ne (subst (λ x. key_at ts x ≡ k) same e)) (cases_lt r n);
      }

  -- the new place heads the chain of its key
  new_head : Leads ts (key_at ts n) (n + 1) (n + 1)
  new_head =
      record {
        within = omega arith;
        here = λ r e. let same : r ≡ n = omega arith in ap (key_at ts) same;
        last = λ r a b _. absurd (omega arith);
      }

  -- the new place is linked to the head of its chain, and heads it then
  pub linked_more :
      length heads ≡ 4096 → n < length links → Linked ts n heads links
      → Linked ts (n + 1) (set heads (key_at ts n) (n + 1)) (set links n (get_or heads (key_at ts n) 0))
  linked_more full room l =
      let k = key_at ts n in
      let low : k < 4096 = key_below ts n in
      let head = get_or heads k 0 in
      record {
        first = λ j h.
            ⊎_elim
            (λ (e : j ≡ k). rw (e, get_or-set_same heads k (n + 1) 0 (omega arith)) new_head)
            (λ (ne : j ≡ k → ⊥). rw (get_or-set_other heads k j (n + 1) 0 ne) (other_head j (get_or heads j 0) (l.first j h) (λ e. ne (sym e))))
            (cases_eq j k);
        next = λ p h.
            ⊎_elim
            (λ (e : p ≡ n). rw (e, get_or-set_same links n head 0 room) (l.first k low))
            (λ (ne : p ≡ n → ⊥). rw (get_or-set_other links n p head 0 ne) (l.next p (omega arith)))
            (cases_eq p n);
      }

-- ---- a walk: all places of the key of q from `ahead` on were seen
-- the one reverse seen so far
pub record Held (ts : List Triangle) (q ahead p : ℕ) : Type 0 where
  pub seen : ahead ≤ p
  pub below : p < sides ts
  pub reverse : Reverse ts p q
  pub only : (r : ℕ) → ahead ≤ r → r < sides ts → Reverse ts r q → r ≡ p

abbrev pub Found : List Triangle → ℕ → ℕ → Option ℕ → Type 0
Found ts q ahead found = MatchOption found ((r : ℕ) → ahead ≤ r → r < sides ts → Reverse ts r q → ⊥) (λ p. Held ts q ahead p)

pub record Walked (ts : List Triangle) (q ahead : ℕ) (found : Option ℕ) : Type 0 where
  pub within : ahead ≤ sides ts
  pub here : (r : ℕ) → ahead ≡ suc r → key_at ts r ≡ key_at ts q
  pub once : (r : ℕ) → ahead ≤ r → r < sides ts → Same ts r q → r ≡ q
  pub held : Found ts q ahead found

module _ (ts : List Triangle) (heads links : List ℕ) (l : Linked ts (sides ts) heads links) (q : ℕ) where
  -- a place that is seen next, and the link behind it
  module _ (p : ℕ) (found : Option ℕ) (w : Walked ts q (suc p) found) where
    pub seen_below : p < sides ts
    seen_below = let i = w.within in omega arith

    -- no place of the key lies between the link and the place
    before : (r : ℕ) → get_or links p 0 ≤ r → r < p → key_at ts r ≡ key_at ts q → ⊥
    before r a b e = (l.next p seen_below).last r a b (e ∙ sym (w.here p refl))

    link_within : get_or links p 0 ≤ p
    link_within = (l.next p seen_below).within

    link_here : (r : ℕ) → get_or links p 0 ≡ suc r → key_at ts r ≡ key_at ts q
    link_here r e = (l.next p seen_below).here r e ∙ w.here p refl

    -- the side of q was seen at no other place
    still_once : (Same ts p q → p ≡ q) → (r : ℕ) → get_or links p 0 ≤ r → r < sides ts → Same ts r q → r ≡ q
    still_once own r a b s =
        ⊎_elim
        (λ (e : r ≡ p). subst (λ x. Same ts x q → x ≡ q) (sym e) own s)
        (λ (o : (r < p) ⊎ (p < r)).
        ⊎_elim (λ (lt : r < p). absurd (before r a lt (same_key ts r q s))) (λ (gt : p < r). w.once r (omega arith) b s) o)
        (cases_order r p)

    -- the place is no reverse
    pub walk_passes : (Same ts p q → p ≡ q) → (Reverse ts p q → ⊥) → Walked ts q (get_or links p 0) found
    walk_passes own not_back =
        let i = link_within in
        let j = seen_below in
        record { within = omega arith; here = link_here; once = still_once own; held = passes found w.held }
      where
        none : (r : ℕ) → get_or links p 0 ≤ r → r < sides ts → Reverse ts r q → (suc p ≤ r → ⊥) → ⊥
        none r a b s far =
            ⊎_elim
            (λ (e : r ≡ p). not_back (subst (λ x. Reverse ts x q) e s))
            (λ (o : (r < p) ⊎ (p < r)).
            ⊎_elim (λ (lt : r < p). before r a lt (reverse_key ts r q s)) (λ (gt : p < r). far (omega arith)) o)
            (cases_order r p)

        passes : (f : Option ℕ) → Found ts q (suc p) f → Found ts q (get_or links p 0) f
        passes None h = λ r a b s. none r a b s (λ far. h r far b s)
        passes (Some x) h =
            let i = link_within in
            let k = h.seen in
            record {
              seen = omega arith;
              below = h.below;
              reverse = h.reverse;
              only = λ r a b s.
                  ⊎_elim (λ (lt : r < suc p). absurd (none r a b s (λ far. omega arith))) (λ (ge : suc p ≤ r). h.only r ge b s) (cases_lt r (suc p));
            }

    -- the place is the first reverse
    pub walk_finds : (Same ts p q → p ≡ q) → Reverse ts p q → found ≡ None → Walked ts q (get_or links p 0) (Some p)
    walk_finds own back e =
        let i = link_within in
        let j = seen_below in
        let none : (r : ℕ) → suc p ≤ r → r < sides ts → Reverse ts r q → ⊥ = subst (Found ts q (suc p)) e w.held in
        record {
          within = omega arith;
          here = link_here;
          once = still_once own;
          held = record {
            seen = i;
            below = j;
            reverse = back;
            only = λ r a b s.
                ⊎_elim
                (λ (same : r ≡ p). same)
                (λ (o : (r < p) ⊎ (p < r)).
                ⊎_elim (λ (lt : r < p). absurd (before r a lt (reverse_key ts r q s))) (λ (gt : p < r). absurd (none r (omega arith) b s)) o)
                (cases_order r p);
          };
        }

    -- the place is a second reverse
    pub twice_back : (x : ℕ) → found ≡ Some x → Reverse ts p q → PairedAt ts q → ⊥
    twice_back x e s m =
        let h : Held ts q (suc p) x = subst (Found ts q (suc p)) e w.held in
        let i = m.1.reverse_once p seen_below s in
        let j = m.1.reverse_once x h.below h.reverse in
        let k = h.seen in
        omega arith

-- what a walk to the end has found
pub walk_ends :
    (ts : List Triangle) (q : ℕ) (found : Option ℕ) → Walked ts q 0 found → MatchOption found (PairedAt ts q → ⊥) (λ p. Partners ts q p)
walk_ends ts q None w = λ m. w.held m.0 (omega arith) m.1.in_range m.1.reverse
walk_ends ts q (Some p) w =
    record {
      in_range = w.held.below;
      reverse = w.held.reverse;
      once = λ r. w.once r (omega arith);
      reverse_once = λ r. w.held.only r (omega arith);
    }

-- ---- what the code's tests of two sides say
pub alike : (s t : Side) → (eqb s.from t.from && eqb s.to t.to) ≡ true → (s.from ≡ t.from) × (s.to ≡ t.to)
alike s t e = let p = and_parts (eqb s.from t.from) (eqb s.to t.to) e in (eqb-true s.from t.from p.0, eqb-true s.to t.to p.1)

pub unlike : (s t : Side) → (eqb s.from t.from && eqb s.to t.to) ≡ false → (s.from ≡ t.from) × (s.to ≡ t.to) → ⊥
unlike s t e p =
    ⊎_elim
    (λ (x : eqb s.from t.from ≡ false). eqb-false s.from t.from x p.0)
    (λ (x : eqb s.to t.to ≡ false). eqb-false s.to t.to x p.1)
    (and_cases (eqb s.from t.from) (eqb s.to t.to) e)

-- what the code's test of an option says
pub some_there : (o : Option ℕ) → is_some o ≡ true → (x : ℕ) × (o ≡ Some x)
some_there None e = absurd (true≢false (sym e))
some_there (Some x) e = (x, refl)

pub none_left : (o : Option ℕ) → is_some o ≡ false → o ≡ None
none_left None e = refl
none_left (Some x) e = absurd (true≢false e)
