use Rattle.std.proofs.Common.{◌≡◌, ℕ, ◌+◌, ◌-◌, ◌%◌, ◌<◌, Bool, true, false, cond, ℤ, pos, ◌+ℤ◌, neg_ℤ, None, Option, sym, refl, ap, ◌∙◌, arith}
use lib.Signed.{lt_z}
use Rattle.std.proofs.lemmas.Bool.{true≢false, cond-true, cond-false}
use Rattle.algebra.specs.Counts.{mod_z, Up, Down}
use Rattle.algebra.proofs.Counts.{turned_is}
use Rattle.planes.specs.Planes.{PlaneModel, Sound}
use Rattle.survey.specs.RasterTilts.{value_on}
use Rattle.survey.specs.Tilts.{turn_of}
use Rattle.survey.specs.declared.raster.facing.Facing.{Facing}
use Rattle.survey.specs.declared.raster.facing.Facing.TheVariants as facing
use Rattle.survey.specs.declared.raster.brushes.Crossing.{Crossing}
use Rattle.survey.proofs.RasterSweeps.{counted, kept, none_more, outside}
use Rattle.survey.proofs.raster.brushes.CrossingBrush.touch.Goals as goal

abbrev lays : ℕ → ℕ → Option ℤ
lays _ _ = None

abbrev over : Crossing → ℕ → ℕ → ℤ → Bool
over b i j h = lt_z (pos 0) (value_on b.tilt i j h)

abbrev adds : Crossing → ℕ → ℕ → ℤ → ℤ
adds b i j h = cond (over b i j h) (turn_of b.facing) (pos 0)

-- what is added where the face is below, and where it is not
added : (b : Crossing) (i j : ℕ) (h h' : ℤ) (s : Facing) → h ≡ h' → over b i j h ≡ true → b.facing ≡ s → adds b i j h' ≡ turn_of s
added b i j h h' s e t f = ap (adds b i j) (sym e) ∙ cond-true (over b i j h) (turn_of b.facing) (pos 0) t ∙ ap turn_of f

not_added : (b : Crossing) (i j : ℕ) (h h' : ℤ) → h ≡ h' → over b i j h ≡ false → adds b i j h' ≡ pos 0
not_added b i j h h' e t = ap (adds b i j) (sym e) ∙ cond-false (over b i j h) (turn_of b.facing) (pos 0) t

some_modulus : (m : PlaneModel) → Sound m → 0 < m.modulus
some_modulus m s = let h = s.modulus_low in omega arith

one_less : (m : PlaneModel) (i j : ℕ) (a : ℤ) → Sound m → a ≡ neg_ℤ (pos 1) → (m.count i j + (m.modulus - 1)) % m.modulus ≡ mod_z (pos (m.count i j) +ℤ a) m.modulus
one_less m i j a s e = turned_is m.modulus (m.count i j) Down (some_modulus m s) ∙ ap (λ (x : ℤ). mod_z (pos (m.count i j) +ℤ x) m.modulus) (sym e)

one_more : (m : PlaneModel) (i j : ℕ) (a : ℤ) → Sound m → a ≡ pos 1 → (m.count i j + 1) % m.modulus ≡ mod_z (pos (m.count i j) +ℤ a) m.modulus
one_more m i j a s e = turned_is m.modulus (m.count i j) Up (some_modulus m s) ∙ ap (λ (x : ℤ). mod_z (pos (m.count i j) +ℤ x) m.modulus) (sym e)

as_before : (m : PlaneModel) (i j : ℕ) (a : ℤ) → Sound m → a ≡ pos 0 → mod_z (pos (m.count i j) +ℤ a) m.modulus ≡ m.count i j
as_before m i j a s e = ap (λ (x : ℤ). mod_z (pos (m.count i j) +ℤ x) m.modulus) e ∙ none_more (m.count i j) m.modulus (s.counts i j)

pub returns-in-Up-clause-after : goal.returns-in-Up-clause-after
returns-in-Up-clause-after g c =
    let m : PlaneModel = g.P.Plane.model c.args.plane.now in
    let i : ℕ = c.args.column.0 in
    let j : ℕ = c.args.row.0 in
    let b : Crossing = c.args.self.now in
    counted m (g.P.Plane.model c.less.new.self) i j lays (adds b) (m.modulus - 1) c.less.ensures.after refl
    (one_less m i j (adds b i j (m.height i j)) (g.P.Plane.sound c.args.plane.now)
    (added b i j c.in-Some.height.0 (m.height i j) facing.Up c.in-Some.ensures.1 (sym c.is_below.ensures ∙ c.if-is_below.true) c.in-Up.is))

pub returns-in-Down-clause-after : goal.returns-in-Down-clause-after
returns-in-Down-clause-after g c =
    let m : PlaneModel = g.P.Plane.model c.args.plane.now in
    let i : ℕ = c.args.column.0 in
    let j : ℕ = c.args.row.0 in
    let b : Crossing = c.args.self.now in
    counted m (g.P.Plane.model c.more.new.self) i j lays (adds b) 1 c.more.ensures.after refl
    (one_more m i j (adds b i j (m.height i j)) (g.P.Plane.sound c.args.plane.now)
    (added b i j c.in-Some.height.0 (m.height i j) facing.Down c.in-Some.ensures.1 (sym c.is_below.ensures ∙ c.if-is_below.true) c.in-Down.is))

pub returns-else-is_below-clause-after : goal.returns-else-is_below-clause-after
returns-else-is_below-clause-after g c =
    let m : PlaneModel = g.P.Plane.model c.args.plane.now in
    let i : ℕ = c.args.column.0 in
    let j : ℕ = c.args.row.0 in
    let b : Crossing = c.args.self.now in
    kept m m i j lays (adds b) refl (λ _. refl)
    (λ _. as_before m i j (adds b i j (m.height i j)) (g.P.Plane.sound c.args.plane.now)
    (not_added b i j c.in-Some.height.0 (m.height i j) c.in-Some.ensures.1 (sym c.is_below.ensures ∙ c.if-is_below.false)))

pub returns-in_default-clause-after : goal.returns-in_default-clause-after
returns-in_default-clause-after g c =
    let m : PlaneModel = g.P.Plane.model c.args.plane.now in
    let i : ℕ = c.args.column.0 in
    let j : ℕ = c.args.row.0 in
    let b : Crossing = c.args.self.now in
    kept m m i j lays (adds b) refl (λ _. refl)
    (λ w. absurd (true≢false (sym w ∙ outside m (g.P.Plane.sound c.args.plane.now) i j c.in_default.ensures)))
