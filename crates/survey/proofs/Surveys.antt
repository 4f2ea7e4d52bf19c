-- The law over whole surveys, by induction on the lists of attempts.
use Rattle.std.proofs.Common.{◌≡◌, List, [], ◌∷◌, ◌++◌, sym, ap, subst, append_assoc, append-nil}
use Rattle.solids.specs.Solids.{SolidModel}
use Rattle.planes.specs.Planes.{PlaneModel}
use Rattle.survey.specs.Survey.{SurveyModel}
use Rattle.survey.specs.Account.{Shadow, Account, Stands, with_lay, with_cast}
use Rattle.survey.specs.Law.{LayAttempt, Lays, LayRefused, CastAttempt, Casts, CastRefused, LayRun, CastRun, accepted_lays, accepted_casts, account_of, SurveysObey}
use Rattle.survey.proofs.Limits.{ground_is_height}
use Rattle.survey.proofs.Pixels.{window_inside}
use Rattle.survey.proofs.Accounts.{begun_stands, kept_stands, laid_stands, cast_stands, tells_truth}

-- the account after some more lays, and after some more casts
abbrev lays_after : Account → List SolidModel → Account
lays_after a Ss = record { ground = a.ground; lays = a.lays ++ Ss; casts = a.casts }

abbrev casts_after : Account → List Shadow → Account
casts_after a cs = record { ground = a.ground; lays = a.lays; casts = a.casts ++ cs }

abbrev with_lays : Account → List SolidModel → Account
with_lays a Ss = record { ground = a.ground; lays = Ss; casts = a.casts }

abbrev with_casts : Account → List Shadow → Account
with_casts a cs = record { ground = a.ground; lays = a.lays; casts = cs }

lays_stand : (qs : List LayAttempt) (a : Account) (s : SurveyModel) (m n : PlaneModel) → s.total ≡ 0 → Stands a m s → LayRun qs m n → Stands (lays_after a (accepted_lays qs)) n s
lays_stand [] a s m n z st r =
    subst (λ (Ss : List SolidModel). Stands (with_lays a Ss) n s) (sym (append-nil a.lays)) (kept_stands m n r a s st)
lays_stand (Lays S ∷ qs) a s m n z st r =
    subst (λ (Ss : List SolidModel). Stands (with_lays a Ss) n s) (append_assoc a.lays (S ∷ []) (accepted_lays qs))
    (lays_stand qs (with_lay a S) s r.0 n z (laid_stands m r.0 S s z r.1 a st) r.2)
lays_stand (LayRefused why ∷ qs) a s m n z st r = lays_stand qs a s r.0 n z (kept_stands m r.0 r.1 a s st) r.2

casts_stand : (qs : List CastAttempt) (a : Account) (s t : SurveyModel) (m n : PlaneModel) → Stands a m s → CastRun qs m s n t → Stands (casts_after a (accepted_casts qs)) n t
casts_stand [] a s t m n st r =
    subst (λ (cs : List Shadow). Stands (with_casts a cs) n t) (sym (append-nil a.casts))
    (subst (λ (u : SurveyModel). Stands a n u) (sym r.1) (kept_stands m n r.0 a s st))
casts_stand (Casts S d ∷ qs) a s t m n st r =
    subst (λ (cs : List Shadow). Stands (with_casts a cs) n t) (append_assoc a.casts (record { solid = S; run = d } ∷ []) (accepted_casts qs))
    (casts_stand qs (with_cast a S d) r.1 t r.0 n
    (cast_stands m r.0 S d s r.1 (ap (λ (u : SurveyModel). u.shape) r.2.1) (ap (λ (u : SurveyModel). u.total) r.2.1) r.2.0 a st) r.3)
casts_stand (CastRefused why ∷ qs) a s t m n st r =
    casts_stand qs a r.1 t r.0 n (subst (λ (u : SurveyModel). Stands a r.0 u) (sym r.2.1) (kept_stands m r.0 r.2.0 a s st)) r.3

pub surveys_obey : SurveysObey
surveys_obey g qs rs m n t sound ground S =
    let begun = begun_stands m S.begun_plane g S.begun (window_inside m sound) (ground_is_height g ground) S.begins in
    let laid = lays_stand qs _ S.begun S.begun_plane S.laid_plane S.begins.total begun S.laying in
    let stands : Stands (account_of g qs rs) n t = casts_stand rs _ S.begun t S.laid_plane n laid S.casting in
    (stands, λ k l w. tells_truth (account_of g qs rs) n t k l stands w)
