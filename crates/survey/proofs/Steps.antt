-- Changes of a plane one after another: laying more and more, and counting more and more.
use Rattle.std.proofs.Common.{◌≡◌, ℕ, ◌+◌, ◌%◌, ◌<◌, Bool, true, false, cond, List, [], ◌∷◌, ◌++◌, ℤ, pos, ◌+ℤ◌, Option, sym, refl, ap, ◌∙◌, subst, ap₂, add-zero, mod-eq_of_lt, add-one}
use lib.IntN.{+ℤ_assoc}
use Rattle.algebra.specs.Counts.{mod_z}
use Rattle.algebra.specs.Maxima.{maximum_over_some}
use Rattle.algebra.proofs.Counts.{mod_z-add}
use Rattle.algebra.proofs.Maxima.{maximum_over_some-append}
use Rattle.geometry.specs.Vectors.{V3}
use Rattle.volumes.specs.Faces.{Sample, Face, contribution}
use Rattle.planes.specs.Planes.{PlaneModel, Sound, in_window}
use Rattle.survey.specs.Drawing.{sample_of, laid_at, Drawn, LaidOn}
use Rattle.solids.specs.Solids.{SolidModel}
use Rattle.volumes.specs.Volumes.{corner_of}
use Rattle.survey.specs.Changes.{lay_at, lays_below, Heightened, Tallied}
use Rattle.survey.proofs.Pixels.{same_refl, same_trans, same_window}

-- ---- laying
-- nothing is laid
pub heightened_none : (m : PlaneModel) → Heightened m (λ _. []) m
heightened_none m = record {
  shape = same_refl m;
  heights = λ k l. either (in_window m k l) (m.height k l);
  counts = λ k l. refl;
}
  where
    either : (b : Bool) (h : ℤ) → h ≡ cond b h h
    either true h = refl
    either false h = refl

-- one triangle
pub heightened_one : (m n : PlaneModel) (a b c : V3) → LaidOn m a b c n → Heightened m (λ p. laid_at a b c p ∷ []) n
heightened_one m n a b c h = record { shape = h.shape; heights = h.heights; counts = h.counts }

-- two changes come to one
pub heightened_more : (m n o : PlaneModel) (f g : Sample → List (Option ℤ)) → Heightened m f n → Heightened n g o → Heightened m (λ p. f p ++ g p) o
heightened_more m n o f g p q = record {
  shape = same_trans m n o p.shape q.shape;
  heights = λ k l. two (in_window m k l) (in_window n k l) (m.height k l) (n.height k l) (o.height k l) (f (sample_of k l)) (g (sample_of k l)) (same_window m n p.shape k l) (p.heights k l) (q.heights k l);
  counts = λ k l. q.counts k l ∙ p.counts k l;
}
  where
    two : (b c : Bool) (x y z : ℤ) (f g : List (Option ℤ)) → c ≡ b → y ≡ cond b (maximum_over_some x f) x → z ≡ cond c (maximum_over_some y g) y → z ≡ cond b (maximum_over_some x (f ++ g)) x
    two true c x y z f g w p q =
        (subst (λ (d : Bool). z ≡ cond d (maximum_over_some y g) y) w q) ∙ ap (λ (h : ℤ). maximum_over_some h g) p ∙ sym (maximum_over_some-append x f g)
    two false c x y z f g w p q = (subst (λ (d : Bool). z ≡ cond d (maximum_over_some y g) y) w q) ∙ p

-- one triangle more of a solid
pub laid_more : (m n o : PlaneModel) (S : SolidModel) (k : ℕ) (a b c : V3) → a ≡ corner_of S k 0 → b ≡ corner_of S k 1 → c ≡ corner_of S k 2
    → Heightened m (lays_below S k) n → LaidOn n a b c o → Heightened m (lays_below S (k + 1)) o
laid_more m n o S k a b c p q r h l =
    let one = subst (λ (w : V3). LaidOn n (corner_of S k 0) (corner_of S k 1) w o) r (subst (λ (w : V3). LaidOn n (corner_of S k 0) w c o) q (subst (λ (w : V3). LaidOn n w b c o) p l)) in
    subst (λ (j : ℕ). Heightened m (lays_below S j) o) (sym (add-one k))
    (heightened_more m n o (lays_below S k) (λ p. lay_at S k p ∷ []) h (heightened_one n o (corner_of S k 0) (corner_of S k 1) (corner_of S k 2) one))

-- ---- counting
-- nothing is counted
pub tallied_none : (m : PlaneModel) → Sound m → Tallied m (λ _ _. pos 0) m
tallied_none m s = record {
  shape = same_refl m;
  heights = λ k l. refl;
  counts = λ k l. either (in_window m k l) (m.count k l) m.modulus (s.counts k l);
}
  where
    either : (b : Bool) (c M : ℕ) → c < M → c ≡ cond b (mod_z (pos c +ℤ pos 0) M) c
    either true c M h = sym (ap (λ (n : ℕ). n % M) (add-zero c) ∙ mod-eq_of_lt h)
    either false c M h = refl

-- one face
pub tallied_one : (m n : PlaneModel) (f : Face) → Drawn m f n → Tallied m (contribution f) n
tallied_one m n f h = record { shape = h.shape; heights = h.heights; counts = h.counts }

-- two changes come to one
pub tallied_more : (m n o : PlaneModel) (f g : Sample → ℤ → ℤ) → 0 < m.modulus → Tallied m f n → Tallied n g o → Tallied m (λ p z. f p z +ℤ g p z) o
tallied_more m n o f g M p q = record {
  shape = same_trans m n o p.shape q.shape;
  heights = λ k l. q.heights k l ∙ p.heights k l;
  counts = λ k l.
      let h : o.count k l ≡ cond (in_window n k l) (mod_z (pos (n.count k l) +ℤ g (sample_of k l) (m.height k l)) m.modulus) (n.count k l)
      = q.counts k l ∙ ap₂ (λ (z : ℤ) (N : ℕ). cond (in_window n k l) (mod_z (pos (n.count k l) +ℤ g (sample_of k l) z) N) (n.count k l)) (p.heights k l) p.shape.modulus in
      two (in_window m k l) (in_window n k l) (m.count k l) (n.count k l) (o.count k l) m.modulus (f (sample_of k l) (m.height k l)) (g (sample_of k l) (m.height k l)) M (same_window m n p.shape k l) (p.counts k l) h;
}
  where
    two : (b c : Bool) (x y z M : ℕ) (f g : ℤ) → 0 < M → c ≡ b → y ≡ cond b (mod_z (pos x +ℤ f) M) x → z ≡ cond c (mod_z (pos y +ℤ g) M) y → z ≡ cond b (mod_z (pos x +ℤ (f +ℤ g)) M) x
    two true c x y z M f g pos-M w p q =
        (subst (λ (d : Bool). z ≡ cond d (mod_z (pos y +ℤ g) M) y) w q)
        ∙ ap (λ (h : ℕ). mod_z (pos h +ℤ g) M) p
        ∙ mod_z-add (pos x +ℤ f) g M pos-M
        ∙ ap (λ (h : ℤ). mod_z h M) (+ℤ_assoc (pos x) f g)
    two false c x y z M f g pos-M w p q = (subst (λ (d : Bool). z ≡ cond d (mod_z (pos y +ℤ g) M) y) w q) ∙ p

-- the same amounts
pub tallied_same : (m n : PlaneModel) (f g : Sample → ℤ → ℤ) → ((p : Sample) (z : ℤ) → f p z ≡ g p z) → Tallied m f n → Tallied m g n
tallied_same m n f g e t = record {
  shape = t.shape;
  heights = t.heights;
  counts = λ k l. t.counts k l ∙ ap (λ (h : ℤ). cond (in_window m k l) (mod_z (pos (m.count k l) +ℤ h) m.modulus) (m.count k l)) (e (sample_of k l) (m.height k l));
}
