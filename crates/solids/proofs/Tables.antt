-- Partner lists as loops make and read them.
use Rattle.std.proofs.Common.{◌≡◌, ℕ, ◌+◌, ◌<◌, List, length, get_or, set, sym, subst, arith, get_or-set_other, get_or-set_same, below_more}
use Rattle.solids.specs.Tables.{sides, misfit, First, Partners, PartneredAt, Paired, Partnered, Unloaded, mispartnered}
use Rattle.solids.specs.TableLaw.{AllWithin, AllReverse, AllBack}
use Rattle.solids.specs.declared.misfit.Site.TheVariants.{Place as AtPlace}
use Rattle.geometry.specs.declared.refusal.Refusal.TheVariants.{Side}
use Rattle.geometry.specs.declared.units.Point.{Point}
use Rattle.solids.specs.declared.solid.Triangle.{Triangle}

-- one more partner is written
pub partnered_more :
    (ts : List Triangle) (ps : List ℕ) (n p : ℕ)
    → n < length ps
    → ((q : ℕ) → q < n → PartneredAt ts ps q)
    → Partners ts n p
    → (q : ℕ) → q < n + 1 → PartneredAt ts (set ps n p) q
partnered_more ts ps n p l before here =
    below_more (PartneredAt ts (set ps n p)) n
    (λ q h. subst (Partners ts q) (sym (get_or-set_other ps n q p 0 (omega arith))) (before q h))
    (subst (Partners ts n) (sym (get_or-set_same ps n p 0 l)) here)

-- ---- a partner list beside the right one
module _ (cs : List Point) (ts : List Triangle) (ps right : List ℕ) (p : Partnered cs ts right) (same : length ps ≡ length right) where
  -- it differs first at n
  pub mispartnered_at : (n : ℕ) → First (λ q. get_or ps q 0 ≡ get_or right q 0) (length ps) n → Unloaded cs ts ps (misfit Side (AtPlace n))
  mispartnered_at n differs =
      let long = p.numbered.inside.filled.counted.long in
      let low = differs.below in
      let here : n < sides ts = omega arith in
      mispartnered
      (subst (Paired cs ts) (sym same) (record { numbered = p.numbered; all = λ q h. (get_or right q 0, p.all q h) }))
      (record {
        below = here;
        fails = λ f. differs.fails ((p.all n here).reverse_once (get_or ps n 0) f.in_range f.reverse);
        before = λ q h. subst (Partners ts q) (sym (differs.before q h)) (p.all q (omega arith));
      })

-- ---- what a table solid keeps
module _ (cs : List Point) (ts : List Triangle) (ps : List ℕ) (p : Partnered cs ts ps) where
  pub partners_within : AllWithin ts ps
  partners_within q h = (p.all q h).in_range

  pub partners_reverse : AllReverse ts ps
  partners_reverse q h = (p.all q h).reverse

  pub partners_back : AllBack ts ps
  partners_back q h =
      let e = (p.all q h).reverse in
      sym ((p.all (get_or ps q 0) (p.all q h).in_range).reverse_once q h (sym e.1, sym e.0))
