-- Sheets as a solid, and that they keep the law of solids.
use Rattle.std.specs.Prelude.{◌≡◌, ℕ, zero, suc, ◌+◌, ◌-◌, ◌*◌, ◌/◌, ◌%◌, ◌<◌, ◌≤◌, min, pos, refl}
use Rattle.std.proofs.Common.{sym, ◌∙◌, ap, ap₂, arith}
use Rattle.std.specs.Int.Signed.{le_z_yes}
use Rattle.geometry.specs.Vectors.{vector}
use Rattle.solids.specs.Solids.{Corners, SolidModel, Lawful, pick, start_of, end_of}

-- the two triangles of a sheet
abbrev pub face : ℕ → Corners
face zero = record { first = 0; second = 1; third = 2 }
face (suc b) = record { first = 0; second = 2; third = 1 }

-- n corners and p sheets. Place 6m + r of a side has its partner at place 6m + (5 − r)
abbrev pub sheets_of : ℕ → ℕ → SolidModel
sheets_of n p = record {
  corners = n;
  corner = λ _. vector (pos 0) (pos 0) (pos 0);
  triangles = 2 * p;
  triangle = λ k. face (k % 2);
  partner = λ q. 6 * (q / 6) + (5 - q % 6);
}

-- ---- the corner numbers of a triangle
pick_small : (b s : ℕ) → pick (face b) s ≤ 2
pick_small zero zero = omega arith
pick_small zero (suc zero) = omega arith
pick_small zero (suc (suc s)) = omega arith
pick_small (suc b) zero = omega arith
pick_small (suc b) (suc zero) = omega arith
pick_small (suc b) (suc (suc s)) = omega arith

-- picking twice leads back, so numbers differ
pick_back : (b s : ℕ) → s < 3 → pick (face b) (pick (face b) s) ≡ s
pick_back zero zero h = refl
pick_back zero (suc zero) h = refl
pick_back zero (suc (suc zero)) h = refl
pick_back zero (suc (suc (suc s))) h = absurd (omega arith)
pick_back (suc b) zero h = refl
pick_back (suc b) (suc zero) h = refl
pick_back (suc b) (suc (suc zero)) h = refl
pick_back (suc b) (suc (suc (suc s))) h = absurd (omega arith)

-- ---- sides by their place in a sheet
six : (P : ℕ → Type 0) → P 0 → P 1 → P 2 → P 3 → P 4 → P 5 → (r : ℕ) → r < 6 → P r
six P a b c d e f zero h = a
six P a b c d e f (suc zero) h = b
six P a b c d e f (suc (suc zero)) h = c
six P a b c d e f (suc (suc (suc zero))) h = d
six P a b c d e f (suc (suc (suc (suc zero)))) h = e
six P a b c d e f (suc (suc (suc (suc (suc zero))))) h = f
six P a b c d e f (suc (suc (suc (suc (suc (suc r)))))) h = absurd (omega arith)

start_at : (n p m r : ℕ) → r < 6 → start_of (sheets_of n p) (6 * m + r) ≡ pick (face (r / 3)) (r % 3)
start_at n p m r h =
    let b : ((6 * m + r) / 3) % 2 ≡ r / 3 = omega arith in
    let s : (6 * m + r) % 3 ≡ r % 3 = omega arith in
    ap₂ (λ (x y : ℕ). pick (face x) y) b s

end_at : (n p m r : ℕ) → r < 6 → end_of (sheets_of n p) (6 * m + r) ≡ pick (face (r / 3)) ((r % 3 + 1) % 3)
end_at n p m r h =
    let b : ((6 * m + r) / 3) % 2 ≡ r / 3 = omega arith in
    let s : ((6 * m + r) % 3 + 1) % 3 ≡ (r % 3 + 1) % 3 = omega arith in
    ap₂ (λ (x y : ℕ). pick (face x) y) b s

-- at each of the six places the partner joins the same corners the other way
starts : (r : ℕ) → r < 6 → pick (face ((5 - r) / 3)) ((5 - r) % 3) ≡ pick (face (r / 3)) ((r % 3 + 1) % 3)
starts = six (λ (r : ℕ). pick (face ((5 - r) / 3)) ((5 - r) % 3) ≡ pick (face (r / 3)) ((r % 3 + 1) % 3)) refl refl refl refl refl refl

ends : (r : ℕ) → r < 6 → pick (face ((5 - r) / 3)) (((5 - r) % 3 + 1) % 3) ≡ pick (face (r / 3)) (r % 3)
ends = six (λ (r : ℕ). pick (face ((5 - r) / 3)) (((5 - r) % 3 + 1) % 3) ≡ pick (face (r / 3)) (r % 3)) refl refl refl refl refl refl

whole : (q : ℕ) → 6 * (q / 6) + q % 6 ≡ q
whole q = omega arith

pub sheets_lawful : (n p : ℕ) → n ≤ 32768 → p ≤ 16384 * min 1 (n / 3) → Lawful (sheets_of n p)
sheets_lawful n p few fewer = record {
  corners_few = few;
  triangles_few = omega arith;
  corners_in_limits = λ i h. record { x_low = le_z_yes tt; x_high = le_z_yes tt; y_low = le_z_yes tt; y_high = le_z_yes tt; z_low = le_z_yes tt; z_high = le_z_yes tt };
  numbers_in_range = λ k s hk hs. let l = pick_small (k % 2) s in let t : 3 ≤ n = omega arith in omega arith;
  numbers_differ = λ k s t hk hs ht e. sym (pick_back (k % 2) s hs) ∙ ap (pick (face (k % 2))) e ∙ pick_back (k % 2) t ht;
  partner_in_range = λ q h. omega arith;
  partner_starts = λ q h.
      let r : q % 6 < 6 = omega arith in
      let r' : 5 - q % 6 < 6 = omega arith in
      start_at n p (q / 6) (5 - q % 6) r' ∙ starts (q % 6) r ∙ sym (end_at n p (q / 6) (q % 6) r) ∙ ap (end_of (sheets_of n p)) (whole q);
  partner_ends = λ q h.
      let r : q % 6 < 6 = omega arith in
      let r' : 5 - q % 6 < 6 = omega arith in
      end_at n p (q / 6) (5 - q % 6) r' ∙ ends (q % 6) r ∙ sym (start_at n p (q / 6) (q % 6) r) ∙ ap (start_of (sheets_of n p)) (whole q);
  partner_back = λ q h. omega arith;
}
