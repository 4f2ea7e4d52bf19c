-- A bearing turns into a run within its limits, or the run that 64 bits keep of it is outside them too.
use Rattle.std.proofs.Common.{◌≡◌, Bool, true, false, ◌&&◌, refl, sym, ap, ℤ, pos, negsuc, neg_ℤ, ◌≤ℤ◌, Ok, Err, Result, ◌∙◌, ap₂, arith, w64, SFits, to_z, of_z}
use borrow.Author.Differences.{ints}
use lib.Signed.{le_z, le_z_yes}
use Rattle.std.specs.Int.{int_wrap, int_wrapping_neg}
use Rattle.std.proofs.lemmas.Int.{int_wrap_fits, to_z-of_z, wrapping_neg_is}
use Rattle.std.proofs.lemmas.Bool.{and_parts}
use Rattle.geometry.specs.Limits.{between, in_run_limits}
use Rattle.geometry.specs.Light.{run_of, opposite, turned}
use Rattle.geometry.specs.declared.light.Run.{Run}
use Rattle.geometry.specs.declared.light.Bearing.{Bearing}
use Rattle.geometry.specs.declared.refusal.Refusal.{Refusal}
use Rattle.geometry.specs.declared.refusal.Refusal.TheVariants as refusal
use Rattle.geometry.proofs.Exact.{passed}

-- the least number but one of 64 bits
abbrev least : ℤ
least = negsuc 9223372036854775806

neg_fits : (x : ℤ) → SFits w64 x → least ≤ℤ x → SFits w64 (neg_ℤ x)
neg_fits x f h = omega (arith, ints)

is_least : (x : ℤ) → SFits w64 x → le_z least x ≡ false → x ≡ negsuc 9223372036854775807
is_least x f h = grind (arith, ints)

kept_least : int_wrap w64 (neg_ℤ (negsuc 9223372036854775807)) ≡ negsuc 9223372036854775807
unfolding int_wrap
kept_least = refl

too_low : (low high : ℤ) → neg_ℤ (pos 1024) ≤ℤ low → between low high (negsuc 9223372036854775807) ≡ false
too_low low high p = grind (arith, ints)

too_high : (low high : ℤ) → high ≤ℤ pos 1024 → between low high (neg_ℤ (negsuc 9223372036854775807)) ≡ false
too_high low high p = grind (arith, ints)

-- a negative is within narrow limits just where what 64 bits keep of it is
wrapped_between : (low high x : ℤ) (b : Bool) → le_z least x ≡ b → neg_ℤ (pos 1024) ≤ℤ low → high ≤ℤ pos 1024 → SFits w64 x → between low high (int_wrap w64 (neg_ℤ x)) ≡ between low high (neg_ℤ x)
wrapped_between low high x true e p q f = ap (between low high) (int_wrap_fits w64 (neg_ℤ x) (neg_fits x f (grind (arith, ints))))
wrapped_between low high x false e p q f = rw (is_least x f e) (ap (between low high) kept_least ∙ too_low low high p ∙ sym (too_high low high q))

-- and is then the same
wrapped_same : (low high x : ℤ) → neg_ℤ (pos 1024) ≤ℤ low → high ≤ℤ pos 1024 → between low high (neg_ℤ x) ≡ true → int_wrap w64 (neg_ℤ x) ≡ neg_ℤ x
wrapped_same low high x p q f = int_wrap_fits w64 (neg_ℤ x) (grind (arith, ints))

-- what the code's negation is when it is read again
negated : (x r : ℤ) → SFits w64 x → r ≡ int_wrapping_neg w64 (to_z w64 (of_z w64 x)) → to_z w64 (of_z w64 r) ≡ int_wrap w64 (neg_ℤ x)
negated x r f e = passed r (neg_ℤ x) (e ∙ ap (int_wrapping_neg w64) (to_z-of_z w64 x f) ∙ wrapping_neg_is w64 x f)

-- ---- a bearing turned round, as 64 bits keep it
abbrev kept : Bearing → Run
kept b = record { dx = int_wrap w64 (neg_ℤ b.dx); dy = int_wrap w64 (neg_ℤ b.dy); dz = int_wrap w64 (neg_ℤ b.dz) }

module _ (b : Bearing) (x : SFits w64 b.dx) (y : SFits w64 b.dy) (z : SFits w64 b.dz) where
  limits_kept : in_run_limits (run_of (kept b)) ≡ in_run_limits (run_of (opposite b))
  limits_kept =
      ap₂ ◌&&◌
      (ap₂ ◌&&◌
      (wrapped_between (neg_ℤ (pos 1024)) (pos 1024) b.dx _ refl (le_z_yes tt) (le_z_yes tt) x)
      (wrapped_between (neg_ℤ (pos 1024)) (pos 1024) b.dy _ refl (le_z_yes tt) (le_z_yes tt) y))
      (wrapped_between (neg_ℤ (pos 1024)) (neg_ℤ (pos 1)) b.dz _ refl (le_z_yes tt) (le_z_yes tt) z)

  kept_ok : in_run_limits (run_of (kept b)) ≡ true → ◌≡◌ {A = Result Run Refusal} (Ok (kept b)) (turned b)
  kept_ok h =
      let e = sym limits_kept ∙ h in
      let p = and_parts (between (neg_ℤ (pos 1024)) (pos 1024) (neg_ℤ b.dx) && between (neg_ℤ (pos 1024)) (pos 1024) (neg_ℤ b.dy)) _ e in
      let q = and_parts (between (neg_ℤ (pos 1024)) (pos 1024) (neg_ℤ b.dx)) _ p.0 in
      let dx = wrapped_same (neg_ℤ (pos 1024)) (pos 1024) b.dx (le_z_yes tt) (le_z_yes tt) q.0 in
      let dy = wrapped_same (neg_ℤ (pos 1024)) (pos 1024) b.dy (le_z_yes tt) (le_z_yes tt) q.1 in
      let dz = wrapped_same (neg_ℤ (pos 1024)) (neg_ℤ (pos 1)) b.dz (le_z_yes tt) (le_z_yes tt) p.1 in
      rw e (λ i. Ok record { dx = dx i; dy = dy i; dz = dz i })

  kept_err : in_run_limits (run_of (kept b)) ≡ false → ◌≡◌ {A = Result Run Refusal} (Err refusal.Run) (turned b)
  kept_err h = let e = sym limits_kept ∙ h in rw e refl

  -- u, v and w: what the code's negations answer
  module _ (u v w : ℤ) (eu : u ≡ int_wrapping_neg w64 (to_z w64 (of_z w64 b.dx))) (ev : v ≡ int_wrapping_neg w64 (to_z w64 (of_z w64 b.dy)))
      (ew : w ≡ int_wrapping_neg w64 (to_z w64 (of_z w64 b.dz))) where
    abbrev pub run : Run
    run = record { dx = to_z w64 (of_z w64 u); dy = to_z w64 (of_z w64 v); dz = to_z w64 (of_z w64 w) }

    run_kept : run ≡ kept b
    run_kept = λ i. record { dx = negated b.dx u x eu i; dy = negated b.dy v y ev i; dz = negated b.dz w z ew i }

    pub turned_ok : in_run_limits (run_of run) ≡ true → ◌≡◌ {A = Result Run Refusal} (Ok run) (turned b)
    turned_ok h = ap Ok run_kept ∙ kept_ok (sym (ap (λ r. in_run_limits (run_of r)) run_kept) ∙ h)

    pub turned_err : in_run_limits (run_of run) ≡ false → ◌≡◌ {A = Result Run Refusal} (Err refusal.Run) (turned b)
    turned_err h = kept_err (sym (ap (λ r. in_run_limits (run_of r)) run_kept) ∙ h)
