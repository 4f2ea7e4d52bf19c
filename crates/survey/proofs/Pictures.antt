-- Writing a buffer from its front, and the bytes of a picture.
use Rattle.std.proofs.Common.{◌≡◌, ℕ, zero, suc, ◌+◌, ◌-◌, ◌*◌, ◌/◌, ◌%◌, ◌^◌, ◌<◌, ◌≤◌, true, ltb, ◌⊎◌, List, [], ◌∷◌, ◌++◌, length, get_or, take, drop, set, max, pow-suc, decimal, sym, refl, ap, ◌∙◌, subst, ap₂, inl, inr, append_assoc, append-nil, add-zero, mul_comm, mul-le-mul_left, add-one, arith, lit<, length-append, length-drop, drop-cons}
use native.Mathlib.Nat.{lt_of_not-le, le-max_left, pow-le-pow_right}
use Rattle.std.proofs.Math.Seq.{take-append_seam, drop-append-add}
use Rattle.std.proofs.lemmas.List.{take-append-drop, drop-drop, set_at, get_or_at, get_or_append_left, get_or-append_right, get_or-append-add}
use Rattle.std.proofs.lemmas.Bool.{cond-true, cases_eq, and_parts, ltb-true}
use Rattle.std.proofs.lemmas.Fmt.{decimal_digit, decimal_step, decimal_by_steps, decimal_nonempty, length-decimal-le}
use Rattle.planes.specs.Planes.{PlaneModel, Sound, in_window}
use Rattle.survey.specs.Survey.{SurveyModel, mark_of, grey_of}
use Rattle.survey.specs.Account.{Account, Stands}
use Rattle.survey.specs.Picture.{header_of, grey_at, row_below, rows_below, picture, byte_of, Shows, filled, Appended}
use Rattle.survey.specs.Pens.{HasRoom, Writes}
use Rattle.survey.specs.declared.pen.Pen.{Pen}
use Rattle.survey.proofs.Pixels.{window_inside}
use Rattle.survey.proofs.Accounts.{tells_truth}

-- ---- writing
-- one byte behind what was written
one_more : (at byte : ℕ) (old e before : List ℕ) → at + 1 ≤ length old → length before ≡ at → old ≡ filled e before → set old at byte ≡ filled e (before ++ (byte ∷ []))
one_more at byte old e before h l is =
    let size : length old ≡ length before + (length e - length before)
    = ap length is ∙ length-append before (drop (length before) e) ∙ ap (λ (n : ℕ). length before + n) (length-drop (length before) e) in
    let lt : length before < length e = omega arith in
    let rest : drop (length before) e ≡ get_or e (length before) 0 ∷ drop (suc (length before)) e = drop-cons e (length before) 0 lt in
    let more : suc (length before) ≡ length (before ++ (byte ∷ [])) = sym (length-append before (byte ∷ []) ∙ add-one (length before)) in
    ap (λ (b : List ℕ). set b at byte) (is ∙ ap (λ (t : List ℕ). before ++ t) rest)
    ∙ set_at before (get_or e (length before) 0) (drop (suc (length before)) e) byte at l
    ∙ sym (append_assoc before (byte ∷ []) (drop (suc (length before)) e))
    ∙ ap (λ (n : ℕ). (before ++ (byte ∷ [])) ++ drop n e) more

pub appended_one : (at byte : ℕ) (old : List ℕ) → at + 1 ≤ length old → Appended at (byte ∷ []) old (set old at byte) (at + 1)
appended_one at byte old h = record {
  place = refl;
  bytes = λ e before l is. one_more at byte old e before h l is;
}

-- several bytes
pub appended_text : (at : ℕ) (bs old new : List ℕ) → take (at + length bs) new ≡ take at old ++ bs → drop (at + length bs) new ≡ drop (at + length bs) old → Appended at bs old new (at + length bs)
appended_text at bs old new front back = record { place = refl; bytes = written }
  where
    written : (e before : List ℕ) → length before ≡ at → old ≡ filled e before → new ≡ filled e (before ++ bs)
    written e before l is =
        let kept : take at old ≡ before = ap₂ take (sym l) is ∙ take-append_seam before (drop (length before) e) in
        let rest : drop (at + length bs) old ≡ drop (length (before ++ bs)) e
        = ap₂ (λ (n : ℕ) (o : List ℕ). drop (n + length bs) o) (sym l) is
        ∙ drop-append-add before (drop (length before) e) (length bs)
        ∙ drop-drop (length bs) (length before) e
        ∙ ap (λ (n : ℕ). drop n e) (sym (length-append before bs)) in
        sym (take-append-drop (at + length bs) new) ∙ ap₂ ◌++◌ (front ∙ ap (λ (x : List ℕ). x ++ bs) kept) (back ∙ rest)

-- nothing
pub appended_none : (at : ℕ) (old : List ℕ) → Appended at [] old old at
appended_none at old = record { place = sym (add-zero at); bytes = λ e before l is. is ∙ ap (filled e) (sym (append-nil before)) }

-- one part after another
pub appended_more : (at : ℕ) (xs ys old mid new : List ℕ) (p q : ℕ) → Appended at xs old mid p → Appended p ys mid new q → Appended at (xs ++ ys) old new q
appended_more at xs ys old mid new p q a b = record {
  place = let e = a.place in let f = b.place in omega (arith, length-append xs ys);
  bytes = λ e before l is.
      b.bytes e (before ++ xs) (length-append before xs ∙ ap (λ (n : ℕ). n + length xs) l ∙ sym a.place) (a.bytes e before l is)
      ∙ ap (filled e) (append_assoc before xs ys);
}

-- ---- what a pen writes: nothing, and one part after another
pub writes_none : (p : Pen) → Writes p [] p
writes_none p = record { same = refl; size = refl; written = appended_none p.at p.buffer.now }

pub writes_more : (p q r : Pen) (xs ys : List ℕ) → Writes p xs q → Writes q ys r → Writes p (xs ++ ys) r
writes_more p q r xs ys a b = record { same = b.same ∙ a.same; size = b.size ∙ a.size; written = appended_more p.at xs ys p.buffer.now q.buffer.now r.buffer.now q.at r.at a.written b.written }

-- the digits of a number but for the last, which are none for a single one
abbrev pub Leads : Pen → Pen → ℕ → Type 0
Leads p q n = (ds : List ℕ) × (Writes p ds q × (ds ++ ((48 + n % 10) ∷ []) ≡ decimal n))

pub leads_none : (p q : Pen) (n : ℕ) → n < 10 → q ≡ p → Leads p q n
leads_none p q n h e =
    let d : n % 10 ≡ n = omega arith in
    ([], (subst (λ (x : Pen). Writes p [] x) (sym e) (writes_none p), ap (λ (i : ℕ). (48 + i) ∷ []) d ∙ sym (decimal_digit n h)))

pub leads_some : (p q r : Pen) (n : ℕ) → 10 ≤ n → n < 2 ^ 64 → q ≡ r → Writes p (decimal (n / 10)) r → Leads p q n
leads_some p q r n h k e a = (decimal (n / 10), (subst (λ (x : Pen). Writes p (decimal (n / 10)) x) (sym e) a, sym (decimal_step n h k)))

pub leads_room : (p q : Pen) (n : ℕ) → Leads p q n → HasRoom (length (decimal n)) p → HasRoom 1 q
leads_room p q n (ds, (a, e)) h =
    let l : length (decimal n) ≡ length ds + 1 = ap length (sym e) ∙ length-append ds ((48 + n % 10) ∷ []) in
    omega (arith, a.size, a.written.place)

pub leads_writes : (p q r : Pen) (n : ℕ) → Leads p q n → Writes q ((48 + n % 10) ∷ []) r → Writes p (decimal n) r
leads_writes p q r n (ds, (a, e)) b = subst (λ (bs : List ℕ). Writes p bs r) e (writes_more p q r ds ((48 + n % 10) ∷ []) a b)

-- ---- numbers
-- a number is below the power of ten that has as many zeros as it has digits
below_power : (n : ℕ) → n < 2 ^ 64 → n < 10 ^ length (decimal n)
below_power = decimal_by_steps (λ n ds. n < 10 ^ length ds) (λ n h. h) more
  where
    more : (n : ℕ) (ds : List ℕ) → 10 ≤ n → n / 10 < 10 ^ length ds → n < 10 ^ length (ds ++ ((48 + n % 10) ∷ []))
    more n ds h k =
        let e : 10 ^ length (ds ++ ((48 + n % 10) ∷ [])) ≡ 10 ^ length ds * 10
        = ap (λ (i : ℕ). 10 ^ i) (length-append ds ((48 + n % 10) ∷ []) ∙ add-one (length ds)) ∙ pow-suc 10 (length ds) in
        omega (arith, e)

-- so its length is one more than the power of ten that it reaches
pub length-power : (n k : ℕ) → n < 2 ^ 16 → 10 ^ k ≤ max n 1 → max n 1 < 10 * 10 ^ k → k + 1 ≡ length (decimal n)
length-power n k h low high =
    let most = le-max_left n 1 in
    let tens : 10 ^ (k + 1) ≡ 10 ^ k * 10 = ap (λ (i : ℕ). 10 ^ i) (add-one k) ∙ pow-suc 10 k in
    let few : length (decimal n) ≤ k + 1 = length-decimal-le (k + 1) n (omega arith) (omega (arith, tens)) (omega arith) in
    let some : 0 < length (decimal n) = decimal_nonempty n (omega arith) in
    let below : n < 10 ^ length (decimal n) = below_power n (omega arith) in
    let over : 10 ^ 1 ≤ 10 ^ length (decimal n) = pow-le-pow_right (lit< tt) some in
    let many : k < length (decimal n) = lt_of_not-le (λ (g : length (decimal n) ≤ k). let under : 10 ^ length (decimal n) ≤ 10 ^ k = pow-le-pow_right (lit< tt) g in omega (arith, low, below, over, under)) in
    omega arith

pub length-step : (n : ℕ) → 10 ≤ n → n < 2 ^ 64 → length (decimal (n / 10)) + 1 ≡ length (decimal n)
length-step n h k = sym (ap length (decimal_step n h k) ∙ length-append (decimal (n / 10)) ((48 + n % 10) ∷ []))

pub few_digits : (n : ℕ) → n < 2 ^ 16 → length (decimal n) ≤ 5
few_digits n h = length-decimal-le 5 n (lit< tt) (omega arith) (omega arith)

-- ---- lengths
pub length-header : (w r : ℕ) → length (header_of w r) ≡ 9 + length (decimal w) + length (decimal r)
length-header w r =
    let a = length-append (decimal w) ((32 ∷ []) ++ (decimal r ++ (10 ∷ 50 ∷ 53 ∷ 53 ∷ 10 ∷ []))) in
    let b = length-append (decimal r) (10 ∷ 50 ∷ 53 ∷ 53 ∷ 10 ∷ []) in
    omega arith

pub length-row : (m : PlaneModel) (t l n : ℕ) → length (row_below m t l n) ≡ n
length-row m t l zero = refl
length-row m t l (suc n) = length-append (row_below m t l n) (grey_at m t n l ∷ []) ∙ ap (λ (k : ℕ). k + 1) (length-row m t l n) ∙ add-one n

pub length-rows : (m : PlaneModel) (t n : ℕ) → length (rows_below m t n) ≡ n * m.width
length-rows m t zero = omega arith
length-rows m t (suc n) =
    let ih : length (rows_below m t n) ≡ n * m.width = length-rows m t n in
    let a = length-append (rows_below m t n) (row_below m t n m.width) in
    let b = length-row m t n m.width in
    let c : suc n * m.width ≡ n * m.width + m.width = omega arith in
    omega arith

-- the picture is as long as its header and its pixels
pub length-picture : (m : PlaneModel) (t : ℕ) → length (picture m t) ≡ length (header_of m.width m.rows) + m.width * m.rows
length-picture m t =
    length-append (header_of m.width m.rows) (rows_below m t m.rows)
    ∙ ap (λ (n : ℕ). length (header_of m.width m.rows) + n) (length-rows m t m.rows ∙ mul_comm m.rows m.width)

pub counted_length : (w r a b : ℕ) → a ≡ length (decimal w) → b ≡ length (decimal r) → 9 + a + b + w * r ≡ length (header_of w r) + w * r
counted_length w r a b e f = ap (λ (n : ℕ). n + w * r) (ap₂ (λ (i j : ℕ). 9 + i + j) e f ∙ sym (length-header w r))

pub needed_length : (m : PlaneModel) (t w r n : ℕ) → w ≡ m.width → r ≡ m.rows → n ≡ length (header_of w r) + w * r → n ≡ length (picture m t)
needed_length m t w r n e f h = h ∙ ap₂ (λ (i j : ℕ). length (header_of i j) + i * j) e f ∙ sym (length-picture m t)

-- it fits a machine number
pub product_small : (w r : ℕ) → w < 2 ^ 16 → r < 2 ^ 16 → w * r ≤ 2 ^ 32
product_small w r h k = let p : w * r ≤ w * 65536 = mul-le-mul_left w (omega arith) in omega arith

-- the rows before row n, and that row
pub row_fits : (w r n at size : ℕ) → n < r → at + w * r ≤ size → at + n * w + w ≤ size
row_fits w r n at size h k = let p : w * suc n ≤ w * r = mul-le-mul_left w h in omega arith

-- a row, pixel by pixel, and the rows
pub writes_pixel : (p q r : Pen) (m : PlaneModel) (t l k : ℕ) → Writes p (row_below m t l k) q → Writes q (grey_at m t k l ∷ []) r → Writes p (row_below m t l (k + 1)) r
writes_pixel p q r m t l k a b = subst (λ (n : ℕ). Writes p (row_below m t l n) r) (sym (add-one k)) (writes_more p q r (row_below m t l k) (grey_at m t k l ∷ []) a b)

pub writes_row : (p q r : Pen) (m : PlaneModel) (t l : ℕ) → Writes p (rows_below m t l) q → Writes q (row_below m t l m.width) r → Writes p (rows_below m t (l + 1)) r
writes_row p q r m t l a b = subst (λ (n : ℕ). Writes p (rows_below m t n) r) (sym (add-one l)) (writes_more p q r (rows_below m t l) (row_below m t l m.width) a b)

-- the header and then the rows
pub writes_picture : (p q r : Pen) (m : PlaneModel) (t w h : ℕ) → w ≡ m.width → h ≡ m.rows → Writes p (header_of w h) q → Writes q (rows_below m t m.rows) r → Writes p (picture m t) r
writes_picture p q r m t w h e f a b =
    writes_more p q r (header_of m.width m.rows) (rows_below m t m.rows)
    (subst (λ (i : ℕ). Writes p (header_of i m.rows) q) e (subst (λ (j : ℕ). Writes p (header_of w j) q) f a)) b

pub picture_written : (bs old new : List ℕ) (q : ℕ) → Appended 0 bs old new q → new ≡ filled old bs
picture_written bs old new q a = a.bytes old [] refl refl

-- ---- the byte of a pixel
get_d-row : (m : PlaneModel) (t l n k : ℕ) → k < n → get_or (row_below m t l n) k 0 ≡ grey_at m t k l
get_d-row m t l zero k h = absurd (omega arith)
get_d-row m t l (suc n) k h = go (cases_eq k n) (get_d-row m t l n k)
  where
    go : (k ≡ n) ⊎ (k ≡ n → ⊥) → (k < n → get_or (row_below m t l n) k 0 ≡ grey_at m t k l) → get_or (row_below m t l n ++ (grey_at m t n l ∷ [])) k 0 ≡ grey_at m t k l
    go (inl e) ih = get_or_at (row_below m t l n) (grey_at m t n l) [] 0 k (length-row m t l n ∙ sym e) ∙ ap (λ (i : ℕ). grey_at m t i l) (sym e)
    go (inr f) ih =
        let a = length-row m t l n in
        get_or_append_left (row_below m t l n) (grey_at m t n l ∷ []) 0 k (omega arith) ∙ ih (omega arith)

get_d_rows : (m : PlaneModel) (t n l k : ℕ) → l < n → k < m.width → get_or (rows_below m t n) (l * m.width + k) 0 ≡ grey_at m t k l
get_d_rows m t zero l k h b = absurd (omega arith)
get_d_rows m t (suc n) l k h b = go (cases_eq l n) (λ i. get_d_rows m t n l k i b)
  where
    go : (l ≡ n) ⊎ (l ≡ n → ⊥) → (l < n → get_or (rows_below m t n) (l * m.width + k) 0 ≡ grey_at m t k l) → get_or (rows_below m t n ++ row_below m t n m.width) (l * m.width + k) 0 ≡ grey_at m t k l
    go (inl e) ih =
        let a : length (rows_below m t n) ≡ l * m.width = length-rows m t n ∙ ap (λ (i : ℕ). i * m.width) (sym e) in
        let d : l * m.width + k - l * m.width ≡ k = omega arith in
        get_or-append_right (rows_below m t n) (row_below m t n m.width) (l * m.width) (l * m.width + k) 0 a (omega arith)
        ∙ ap (λ (i : ℕ). get_or (row_below m t n m.width) i 0) d
        ∙ get_d-row m t n m.width k b
        ∙ ap (λ (i : ℕ). grey_at m t k i) (sym e)
    go (inr f) ih =
        let a = length-rows m t n in
        let i : l < n = omega arith in
        let p : m.width * suc l ≤ m.width * n = mul-le-mul_left m.width i in
        get_or_append_left (rows_below m t n) (row_below m t n m.width) 0 (l * m.width + k) (omega arith) ∙ ih i

pub pixel_shown : (m : PlaneModel) → Sound m → (t : ℕ) (e : List ℕ) (k l : ℕ) → in_window m k l ≡ true → get_or (filled e (picture m t)) (byte_of m k l) 0 ≡ grey_of (mark_of m.modulus (m.count k l) t)
pixel_shown m sound t e k l w =
    let within = and_parts (ltb k m.width) (ltb l m.rows) (window_inside m sound k l w) in
    let x : k < m.width = ltb-true k m.width within.0 in
    let y : l < m.rows = ltb-true l m.rows within.1 in
    let p : m.width * suc l ≤ m.width * m.rows = mul-le-mul_left m.width y in
    let a = length-picture m t in
    get_or_append_left (picture m t) (drop (length (picture m t)) e) 0 (byte_of m k l) (omega arith)
    ∙ get_or-append-add (header_of m.width m.rows) (rows_below m t m.rows) (l * m.width + k) 0
    ∙ get_d_rows m t m.rows l k y x
    ∙ cond-true (in_window m k l) (grey_of (mark_of m.modulus (m.count k l) t)) 64 w

-- each byte of the window shows its pixel
pub shows : (a : Account) (m : PlaneModel) → Sound m → (s : SurveyModel) → Stands a m s → (e buffer : List ℕ) → buffer ≡ filled e (picture m s.total) → (k l : ℕ) → in_window m k l ≡ true → Shows a m s k l (get_or buffer (byte_of m k l) 0)
shows a m sound s st e buffer is k l w = record {
  mark = mark_of m.modulus (m.count k l) s.total;
  grey = ap (λ (b : List ℕ). get_or b (byte_of m k l) 0) is ∙ pixel_shown m sound s.total e k l w;
  truth = tells_truth a m s k l st w;
}
