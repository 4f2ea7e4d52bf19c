use Rattle.std.proofs.Common.{◌≡◌, ℕ, List, ◌∷◌, length, Option, Result, Some, None, Ok, Err, sym, ap, ◌∙◌, subst, arith}
use Rattle.std.specs.Option.{ok_or}
use Rattle.std.specs.Result.{IsErr, IsErrAnd, MatchResult}
use Rattle.std.proofs.lemmas.Bool.{false≢true}
use Rattle.text.specs.Lines.{Unreadable, unended, unknown, misplaced, misheaded, miscounted, misspelt}
use Rattle.text.specs.declared.head.Head.{Head}
use Rattle.text.specs.Pieces.{pieces}
use Rattle.text.specs.Heads.{word, head_of, fields}
use Rattle.text.specs.Lines.{Parted}
use Rattle.text.specs.Order.{MayFollow}
use Rattle.text.specs.Text.{left}
use Rattle.text.proofs.Shapes.{fields_shape}
use Rattle.text.proofs.Cuts.{pieces-some}
use Rattle.text.proofs.Unique.{first_of}
use Rattle.text.proofs.classify.classify.Goals as goal

-- the line's parts, where its head is known
parted : (l : List ℕ) (h : Head) {w : List ℕ} {all fs : List (List ℕ)} → all ≡ pieces 9 l → all ≡ w ∷ fs → w ≡ word h → Parted l h fs
parted l h {w} {all} {fs} e cut is = sym e ∙ cut ∙ ap (λ (v : List ℕ). v ∷ fs) is

-- what is answered where an option is None is the refusal that stands beside it
refused : {A T E : Type 0} (P : T → Type 0) (U : E → Type 0) (r : Result T E) (o : Option A) (m v : E) → IsErr r × IsErrAnd r (λ e. e ≡ v) → ok_or o m ≡ Err v → o ≡ None → U m → MatchResult r P U
refused P U (Ok x) o m v h is none u = absurd (false≢true h.0)
refused P U (Err e) None m v h is none u = let same : e ≡ m = cc in subst U (sym same) u
refused P U (Err e) (Some a) m v h is none u = cc

pub returns-then-not-line : goal.returns-then-not-line
returns-then-not-line c = subst (Unreadable _ _ _ _) (sym c.at-misheaded.ensures) (misheaded (unended c.if-not-line.true))

pub returns-in_err-first : goal.returns-in_err-first
returns-in_err-first c =
    let cut = rw c.in_err-first.ensures.ok_part at c.next_part.ensures.cut in
    let none = sym c.parts-parts.ensures.parts ∙ cut.0 in
    absurd (omega (arith, pieces-some 9 c.args.line.bytes.now, ap length none))

pub returns-in_err-head : goal.returns-in_err-head
returns-in_err-head c =
    let cut = rw c.in_ok-first.ensures.ok_part at c.next_part.ensures.cut in
    let none = rw c.in_err-head.ensures.ok_part at c.head_of.ensures in
    refused _ _ _ _ _ _ c.from_residual-in_err-head.ensures (sym c.in_err-head.ensures.value) c.in_err-head.ensures.ok_part
    (subst (Unreadable _ _ _ _) (sym c.at-misheaded.ensures)
    (misheaded (unknown (λ h fs p. none h (first_of (sym cut ∙ c.parts-parts.ensures.parts ∙ p))))))

pub returns-in_err-next : goal.returns-in_err-next
returns-in_err-next c =
    let cut = rw c.in_ok-first.ensures.ok_part at c.next_part.ensures.cut in
    let is = rw c.in_ok-head.ensures.ok_part at c.head_of.ensures in
    let never = rw c.in_err-next.ensures.ok_part at c.follow.ensures in
    refused _ _ _ _ _ _ c.from_residual-in_err-next.ensures (sym c.in_err-next.ensures.value) c.in_err-next.ensures.ok_part
    (subst (Unreadable _ _ _ _) (sym c.at-misheaded.ensures)
    (misheaded (misplaced _ _ (parted c.args.line.bytes.now c.in_ok-head.head c.parts-parts.ensures.parts cut is) never)))

pub returns-in_err-record : goal.returns-in_err-record
returns-in_err-record c =
    let cut = rw c.in_ok-first.ensures.ok_part at c.next_part.ensures.cut in
    let is = rw c.in_ok-head.ensures.ok_part at c.head_of.ensures in
    let may = rw c.in_ok-next.ensures.ok_part at c.follow.ensures in
    let count = rw c.in_err-record.ensures.ok_part at c.record_of.ensures in
    refused _ _ _ _ _ _ c.from_residual-in_err-record.ensures (sym c.in_err-record.ensures.value) c.in_err-record.ensures.ok_part
    (subst (Unreadable _ _ _ _) (sym c.at-miscounted.ensures)
    (miscounted _ _ (record { whole = c.if-not-line.false; parts = parted c.args.line.bytes.now c.in_ok-head.head c.parts-parts.ensures.parts cut is; placed = may.0 }) count))

pub returns-in-Err : goal.returns-in-Err
returns-in-Err c =
    let cut = rw c.in_ok-first.ensures.ok_part at c.next_part.ensures.cut in
    let is = rw c.in_ok-head.ensures.ok_part at c.head_of.ensures in
    let may = rw c.in_ok-next.ensures.ok_part at c.follow.ensures in
    let made = rw c.in_ok-record.ensures.ok_part at c.record_of.ensures in
    let r = c.in_ok-record.record in
    let same : Parted c.args.line.bytes.now (head_of r) (fields r) = parted c.args.line.bytes.now c.in_ok-head.head c.parts-parts.ensures.parts cut is ∙ ap (λ (h : Head). word h ∷ left c.next_part.new.self) (sym made.0) ∙ ap (λ (fs : List (List ℕ)). word (head_of r) ∷ fs) made.1 in
    subst (Unreadable _ _ _ _) (sym c.in_field.ensures)
    (misspelt (head_of r) (fields r) c.in-Err.field-0.0 (record { whole = c.if-not-line.false; parts = same; placed = subst (MayFollow _) (sym made.0) may.0 }) (fields_shape _ _ _ r) c.in-Err.ensures)
