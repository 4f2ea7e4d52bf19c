use Rattle.std.proofs.Common.{◌≡◌, ℕ, ◌^◌, ◌≤◌, T, List, [], ◌∷◌, ℤ, pos, ◌*ℤ◌, nat_abs, ◌<ℤ◌, sym, ap, ◌∙◌, subst, ap₂, le_trans, lit<, lit≤, w64}
use Rattle.algebra.proofs.Ring.{Expr, num, ◌⊗◌, v0, v1, v2, at, eval}
use Rattle.algebra.proofs.Bounds.{bound, AllUnder, abs-under}
use Rattle.algebra.proofs.Machine.{code, back, safe, back_under}
use Rattle.geometry.specs.Vectors.{V3, minus, dot}
use Rattle.geometry.specs.Machine.{vector_of}
use Rattle.survey.specs.Raster.{Near, origin}
use Rattle.survey.specs.Tilts.{value_at}
use Rattle.survey.proofs.TiltLaws.{read, base_is, plane_at}
use Rattle.survey.proofs.raster.tilts.Tilt.new.Goals as goal

abbrev env : V3 → List ℤ
env n = n.x ∷ n.y ∷ n.z ∷ []

module _ (n : V3) (near : Near (2 ^ 40) n) where
  all : AllUnder (2 ^ 40) (env n)
  all = (near.x, (near.y, (near.z, tt)))

  is : (e : Expr) → T (safe (2 ^ 63) (λ _. 2 ^ 40) e) → back w64 (code w64 (at (env n)) e) ≡ eval (at (env n)) e
  is e t = back_under w64 (2 ^ 40) (env n) all e t

  under : (e : Expr) (B : ℕ) → bound (λ _. 2 ^ 40) e ≤ B → T (safe (2 ^ 63) (λ _. 2 ^ 40) e) → nat_abs (back w64 (code w64 (at (env n)) e)) ≤ B
  under e B h t = subst (λ (z : ℤ). nat_abs z ≤ B) (sym (is e t)) (le_trans (abs-under (2 ^ 40) (env n) all e) h)

-- what is computed for the base
based : (n u : V3) (r : ℤ) → nat_abs (dot n (minus origin u)) ≤ 2 ^ 58 → r ≡ dot n (minus origin u) → back w64 r ≡ dot n (minus origin u)
based n u r h e = ap (back w64) e ∙ read (dot n (minus origin u)) (2 ^ 58) h (lit< tt)

pub invariant_of-result : goal.invariant_of-result
invariant_of-result c =
    let n : V3 = vector_of c.args.n in
    let u : V3 = vector_of c.args.u in
    let b = based n u c.dot.result c.requires.offset (base_is n u _ c.dot.result c.requires.corner c.requires.offset c.difference.ensures c.dot.ensures) in
    record {
      base_near = subst (λ (z : ℤ). nat_abs z ≤ 2 ^ 58) (sym b) c.requires.offset;
      column_near = under n c.requires.normal (num 16 ⊗ v0) (2 ^ 44) (lit≤ tt) tt;
      row_near = under n c.requires.normal (num 16 ⊗ v1) (2 ^ 44) (lit≤ tt) tt;
      height_near = under n c.requires.normal v2 (2 ^ 40) (lit≤ tt) tt;
      rises = subst (λ (z : ℤ). pos 0 <ℤ z) (sym (is n c.requires.normal v2 tt)) c.requires.rises;
    }

pub returns : goal.returns
returns c =
    let n : V3 = vector_of c.args.n in
    let u : V3 = vector_of c.args.u in
    let b = based n u c.dot.result c.requires.offset (base_is n u _ c.dot.result c.requires.corner c.requires.offset c.difference.ensures c.dot.ensures) in
    record {
      height = is n c.requires.normal v2 tt;
      is = λ i j h.
          ap₂ (λ (x y : ℤ). value_at x y (back w64 (code w64 (at (env n)) (num 16 ⊗ v1))) (back w64 (code w64 (at (env n)) v2)) i j h) b (is n c.requires.normal (num 16 ⊗ v0) tt)
          ∙ ap₂ (λ (x y : ℤ). value_at (dot n (minus origin u)) (pos 16 *ℤ n.x) x y i j h) (is n c.requires.normal (num 16 ⊗ v1) tt) (is n c.requires.normal v2 tt)
          ∙ plane_at n u i j h;
    }
