-- A line is cut in one way, and says one thing.
use Rattle.std.proofs.Common.{◌≡◌, ℕ, zero, suc, Bool, true, false, cond, eqb, List, [], ◌∷◌, ◌++◌, length, get_or, drop, ℤ, pos, negsuc, decimal, Option, sym, refl, ap, ◌∙◌, subst, append-nil, arith}
use Rattle.std.specs.Str.Parse.{digits_value}
use Rattle.std.specs.Fmt.{signed_decimal}
use Rattle.std.proofs.lemmas.List.{append_cancel_left}
use Rattle.std.proofs.lemmas.Str.Parse.{digit_at}
use Rattle.std.proofs.lemmas.Fmt.{decimal_is_IsNumeral}
use Rattle.std.proofs.lemmas.Bool.{cond-false, ne_eqb}
use Rattle.text.specs.declared.head.Head.{Head}
use Rattle.text.specs.declared.head.Head.TheVariants as head
use Rattle.text.specs.declared.head.Statement.TheVariants as entry
use Rattle.text.specs.declared.entry.PlaneKind.{PlaneKind}
use Rattle.text.specs.declared.entry.PlaneKind.TheVariants.{Line, Pack}
use Rattle.text.specs.declared.entry.What.{What}
use Rattle.text.specs.declared.entry.What.TheVariants.{Solids}
use Rattle.text.specs.declared.fault.Fault.{Fault}
use Rattle.text.specs.Pieces.{Without, pieces}
use Rattle.text.specs.Text.{FirstLine}
use Rattle.text.specs.Heads.{Sort, number, word, shape, head_of}
use Rattle.text.specs.Number.{Numeral, SixDigits}
use Rattle.text.specs.Entries.{Entry, spelt, Few, kind_word, what_word, Good, FirstBad}
use Rattle.text.specs.Lines.{Parted, Reads, Headed, Misheaded, Unreadable, unended, unknown, misplaced, misheaded, miscounted, misspelt}
use Rattle.geometry.specs.declared.refusal.Refusal.TheVariants as refusal
use Rattle.text.specs.Faults.{fault_at}
use Rattle.text.specs.Order.{MayFollow}
use Rattle.text.proofs.Cuts.{pieces-cut, pieces-last, pieces-some}
use Rattle.text.proofs.Shapes.{fields_shape}
use Rattle.text.proofs.Decimals.{numeral_digits, numeral_some}

pub first_of : {X : Type 0} {x y : X} {xs ys : List X} → x ∷ xs ≡ y ∷ ys → x ≡ y
first_of e = cc

rest_of : {X : Type 0} {x y : X} {xs ys : List X} → x ∷ xs ≡ y ∷ ys → xs ≡ ys
rest_of e = cc

pub record SameCut (l m : List ℕ) (b c : Bool) (to un : List ℕ) : Type 0 where
  pub line : l ≡ m
  pub end : b ≡ c
  pub next : to ≡ un

no_cut : (l m to : List ℕ) → Without 10 l → Without 10 m → l ++ 10 ∷ to ≡ m → ⊥
no_cut l m to p q e =
    let same : l ∷ pieces 10 to ≡ m ∷ [] = sym (pieces-cut 10 l to p) ∙ ap (pieces 10) e ∙ pieces-last 10 m q in
    omega (arith, pieces-some 10 to, ap length (rest_of same))

pub same_cut : (from l m to un : List ℕ) (b c : Bool) → FirstLine from l b to → FirstLine from m c un → SameCut l m b c to un
same_cut from l m to un true true p q =
    let e : l ++ 10 ∷ to ≡ m ++ 10 ∷ un = sym p.whole ∙ q.whole in
    let line : l ≡ m = first_of (sym (pieces-cut 10 l to p.plain) ∙ ap (pieces 10) e ∙ pieces-cut 10 m un q.plain) in
    record {
      line = line;
      end = refl;
      next = rest_of (append_cancel_left m (10 ∷ to) (10 ∷ un) (ap (λ (x : List ℕ). x ++ 10 ∷ to) (sym line) ∙ e));
    }
same_cut from l m to un true false p q = absurd (no_cut l m to p.plain q.plain (sym p.whole ∙ q.whole ∙ append-nil m))
same_cut from l m to un false true p q = absurd (no_cut m l un q.plain p.plain (sym q.whole ∙ p.whole ∙ append-nil l))
same_cut from l m to un false false p q =
    record {
      line = sym (append-nil l) ∙ sym p.whole ∙ q.whole ∙ append-nil m;
      end = refl;
      next = (p.last refl).1 ∙ sym (q.last refl).1;
    }

-- the head that a word names
abbrev from_word : List ℕ → Head
from_word w =
    cond (eqb (get_or w 0 0) 112) head.Plan (cond (eqb (get_or w 0 0) 103) head.Ground (cond (eqb (get_or w 0 0) 108) head.Lay
    (cond (eqb (get_or w 1 0) 114) head.Frame (cond (eqb (get_or w 1 0) 111) head.Corner (cond (eqb (get_or w 0 0) 102) head.Face head.Cast)))))

from_word_lem : (h : Head) → from_word (word h) ≡ h
from_word_lem head.Plan = refl
from_word_lem head.Ground = refl
from_word_lem head.Frame = refl
from_word_lem head.Corner = refl
from_word_lem head.Face = refl
from_word_lem head.Lay = refl
from_word_lem head.Cast = refl

pub same_word : (h k : Head) → word h ≡ word k → h ≡ k
same_word h k e = sym (from_word_lem h) ∙ ap from_word e ∙ from_word_lem k

-- the number that a field spells
-- -n
abbrev neg_of : ℕ → ℤ
neg_of zero = pos 0
neg_of (suc n) = negsuc n

abbrev from_number : List ℕ → ℤ
from_number bs = cond (eqb (get_or bs 0 0) 45) (neg_of (digits_value 10 (drop 1 bs))) (pos (digits_value 10 bs))

from_number_lem : (z : ℤ) → SixDigits z → from_number (signed_decimal z) ≡ z
from_number_lem (pos n) few =
    let h : Numeral (decimal n) n = record { few = few; text = refl } in
    let first : eqb (get_or (decimal n) 0 0) 45 ≡ false = ne_eqb _ 45 (λ e. omega (arith, e, (digit_at (decimal n) 0 (numeral_digits _ n h) (numeral_some _ n h)).0)) in
    cond-false _ _ _ first ∙ ap (λ (k : ℕ). pos k) (decimal_is_IsNumeral n (omega arith)).1
from_number_lem (negsuc n) few = ap neg_of (decimal_is_IsNumeral (suc n) (omega arith)).1

abbrev from_kind : List ℕ → PlaneKind
from_kind w = cond (eqb (get_or w 0 0) 108) Line Pack

from_kind_lem : (k : PlaneKind) → from_kind (kind_word k) ≡ k
from_kind_lem Line = refl
from_kind_lem Pack = refl

one_what : (v w : What) → v ≡ w
one_what Solids Solids = refl

-- the entry that a head and fields say
abbrev rebuilt : Head → List (List ℕ) → Entry
rebuilt head.Plan fs = entry.Plan (from_number (get_or fs 0 [])) (from_number (get_or fs 1 [])) (from_kind (get_or fs 2 []))
rebuilt head.Ground fs = entry.Ground (from_number (get_or fs 0 []))
rebuilt head.Frame fs = entry.Frame (from_number (get_or fs 0 [])) (from_number (get_or fs 1 [])) (from_number (get_or fs 2 [])) (from_number (get_or fs 3 []))
rebuilt head.Corner fs = entry.Corner (from_number (get_or fs 0 [])) (from_number (get_or fs 1 [])) (from_number (get_or fs 2 []))
rebuilt head.Face fs = entry.Face (from_number (get_or fs 0 [])) (from_number (get_or fs 1 [])) (from_number (get_or fs 2 []))
rebuilt head.Lay fs = entry.Lay Solids
rebuilt head.Cast fs = entry.Cast Solids (from_number (get_or fs 1 [])) (from_number (get_or fs 2 [])) (from_number (get_or fs 3 []))

rebuilt_spelt : (e : Entry) → Few e → rebuilt (head_of e) (spelt e) ≡ e
rebuilt_spelt (entry.Plan w r k) f = let a = from_number_lem w f.0 in let b = from_number_lem r f.1 in let d = from_kind_lem k in λ i. entry.Plan (a i) (b i) (d i)
rebuilt_spelt (entry.Ground g) f = λ i. entry.Ground (from_number_lem g f i)
rebuilt_spelt (entry.Frame c0 r0 c1 r1) f = λ i. entry.Frame (from_number_lem c0 f.0 i) (from_number_lem r0 f.1 i) (from_number_lem c1 f.2 i) (from_number_lem r1 f.3 i)
rebuilt_spelt (entry.Corner x y z) f = λ i. entry.Corner (from_number_lem x f.0 i) (from_number_lem y f.1 i) (from_number_lem z f.2 i)
rebuilt_spelt (entry.Face a b c) f = λ i. entry.Face (from_number_lem a f.0 i) (from_number_lem b f.1 i) (from_number_lem c f.2 i)
rebuilt_spelt (entry.Lay w) f = λ i. entry.Lay (one_what Solids w i)
rebuilt_spelt (entry.Cast w x y z) f = λ i. entry.Cast (one_what Solids w i) (from_number_lem x f.0 i) (from_number_lem y f.1 i) (from_number_lem z f.2 i)

-- a line says one entry
pub same_entry : (o : Option Head) (l : List ℕ) (b : Bool) (e f : Entry) → Reads o l b e → Reads o l b f → e ≡ f
same_entry o l b e f p q =
    let both = sym p.headed.parts ∙ q.headed.parts in
    let heads : head_of e ≡ head_of f = same_word _ _ (first_of both) in
    let fields : spelt e ≡ spelt f = sym p.says.text ∙ rest_of both ∙ q.says.text in
    sym (rebuilt_spelt e p.says.few) ∙ (λ i. rebuilt (heads i) (fields i)) ∙ rebuilt_spelt f q.says.few

-- the first bad field
pub same_bad : (ss : List Sort) (fs : List (List ℕ)) (j k : ℕ) → FirstBad ss fs j → FirstBad ss fs k → j ≡ k
same_bad [] fs j k p q = absurd p
same_bad (s ∷ ss) [] j k p q = absurd p
same_bad (s ∷ ss) (f ∷ fs) zero k p q = absurd p
same_bad (s ∷ ss) (f ∷ fs) (suc j) zero p q = absurd q
same_bad (s ∷ ss) (f ∷ fs) (suc zero) (suc zero) p q = refl
same_bad (s ∷ ss) (f ∷ fs) (suc zero) (suc (suc k)) p q = absurd (p q.0)
same_bad (s ∷ ss) (f ∷ fs) (suc (suc j)) (suc zero) p q = absurd (q p.0)
same_bad (s ∷ ss) (f ∷ fs) (suc (suc j)) (suc (suc k)) p q = ap suc (same_bad ss fs (suc j) (suc k) p.1 q.1)

abbrev AllGood : List Sort → List (List ℕ) → Type 0
AllGood [] fs = Unit {0}
AllGood (s ∷ ss) [] = Unit {0}
AllGood (s ∷ ss) (f ∷ fs) = Good s f × AllGood ss fs

good_bad : (ss : List Sort) (fs : List (List ℕ)) (k : ℕ) → AllGood ss fs → FirstBad ss fs k → ⊥
good_bad [] fs k g p = p
good_bad (s ∷ ss) [] k g p = p
good_bad (s ∷ ss) (f ∷ fs) zero g p = p
good_bad (s ∷ ss) (f ∷ fs) (suc zero) g p = p g.0
good_bad (s ∷ ss) (f ∷ fs) (suc (suc k)) g p = good_bad ss fs (suc k) g.1 p.1

is_number : (z : ℤ) → SixDigits z → Good number (signed_decimal z)
is_number z f = (z, record { few = f; text = refl })

spelt_good : (e : Entry) → Few e → AllGood (shape (head_of e)) (spelt e)
spelt_good (entry.Plan w r k) f = (is_number w f.0, (is_number r f.1, ((k, refl), tt)))
spelt_good (entry.Ground g) f = (is_number g f, tt)
spelt_good (entry.Frame c0 r0 c1 r1) f = (is_number c0 f.0, (is_number r0 f.1, (is_number c1 f.2, (is_number r1 f.3, tt))))
spelt_good (entry.Corner x y z) f = (is_number x f.0, (is_number y f.1, (is_number z f.2, tt)))
spelt_good (entry.Face a b c) f = (is_number a f.0, (is_number b f.1, (is_number c f.2, tt)))
spelt_good (entry.Lay w) f = ((w, refl), tt)
spelt_good (entry.Cast w x y z) f = ((w, refl), (is_number x f.0, (is_number y f.1, (is_number z f.2, tt))))

length-spelt : (e : Entry) → length (spelt e) ≡ length (shape (head_of e))
length-spelt e = fields_shape signed_decimal kind_word what_word e

-- a line has one head and one list of fields
record SameParts (h k : Head) (fs gs : List (List ℕ)) : Type 0 where
  head : h ≡ k
  fields : fs ≡ gs

same_parts : (l : List ℕ) (h k : Head) (fs gs : List (List ℕ)) → Parted l h fs → Parted l k gs → SameParts h k fs gs
same_parts l h k fs gs p q = let both = sym p ∙ q in record { head = same_word h k (first_of both); fields = rest_of both }

module _ {o : Option Head} {l : List ℕ} {b : Bool} where
  well_headed : (h : Head) (fs : List (List ℕ)) → Headed o l b h fs → Misheaded o l b → ⊥
  well_headed h fs r (unended p) = cc (p, r.whole)
  well_headed h fs r (unknown p) = p h fs r.parts
  well_headed h fs r (misplaced k gs p never) = never (subst (MayFollow o) (same_parts l h k fs gs r.parts p).head r.placed)

  -- a line that says something is not refused for its text
  pub not_unreadable : (n : ℕ) (e : Entry) (f : Fault) → Reads o l b e → Unreadable o l b n f → ⊥
  not_unreadable n e f r (misheaded p) = well_headed _ _ r.headed p
  not_unreadable n e f r (miscounted h fs p more) =
      let s = same_parts l _ _ _ _ r.headed.parts p.parts in
      more (ap length (sym s.fields ∙ r.says.text) ∙ length-spelt e ∙ ap (λ (k : Head). length (shape k)) s.head)
  not_unreadable n e f r (misspelt h fs k p len bad) =
      let s = same_parts l _ _ _ _ r.headed.parts p.parts in
      good_bad (shape (head_of e)) (spelt e) k (spelt_good e r.says.few)
      (subst (λ (gs : List (List ℕ)). FirstBad (shape (head_of e)) gs k) (sym s.fields ∙ r.says.text)
      (subst (λ (m : Head). FirstBad (shape m) fs k) (sym s.head) bad))

  same_length : (h k : Head) (fs gs : List (List ℕ)) → Headed o l b h fs → Headed o l b k gs → length fs ≡ length (shape h) → length gs ≡ length (shape k)
  same_length h k fs gs p q e =
      let s = same_parts l h k fs gs p.parts q.parts in
      ap length (sym s.fields) ∙ e ∙ ap (λ (m : Head). length (shape m)) s.head

  pub same_unreadable : (n : ℕ) (f g : Fault) → Unreadable o l b n f → Unreadable o l b n g → f ≡ g
  same_unreadable n f g (misheaded p) (misheaded q) = refl
  same_unreadable n f g (misheaded p) (miscounted h fs q more) = absurd (well_headed h fs q p)
  same_unreadable n f g (misheaded p) (misspelt h fs k q len bad) = absurd (well_headed h fs q p)
  same_unreadable n f g (miscounted h fs p more) (misheaded q) = absurd (well_headed h fs p q)
  same_unreadable n f g (miscounted h fs p more) (miscounted k gs q less) = refl
  same_unreadable n f g (miscounted h fs p more) (misspelt k gs i q len bad) = absurd (more (same_length k h gs fs q p len))
  same_unreadable n f g (misspelt h fs k p len bad) (misheaded q) = absurd (well_headed h fs p q)
  same_unreadable n f g (misspelt h fs k p len bad) (miscounted m gs q less) = absurd (less (same_length h m fs gs p q len))
  same_unreadable n f g (misspelt h fs k p len bad) (misspelt m gs j q long worse) =
      let s = same_parts l h m fs gs p.parts q.parts in
      ap (fault_at refusal.Field n) (same_bad (shape h) fs k j bad
      (subst (λ (x : List (List ℕ)). FirstBad (shape h) x j) (sym s.fields) (subst (λ (x : Head). FirstBad (shape x) gs j) (sym s.head) worse)))
