use Rattle.std.proofs.Common.{sym}
use Rattle.geometry.specs.Units.{point_of}
use Rattle.geometry.specs.Light.{run_of}
use Rattle.geometry.proofs.Ranges.{strike_limits, in_run_limits_lem}
use Rattle.geometry.proofs.facet.Facet.strike.Goals as goal

pub invariant_of-ray : goal.invariant_of-ray
invariant_of-ray c =
    let s = strike_limits (point_of c.args.self.a) (point_of c.args.self.b) (point_of c.args.self.c) (point_of c.args.receiver) (sym c.if-not-is_in_limits.ensures) in
    let d = in_run_limits_lem (run_of c.args.run) (sym c.if-not-is_lawful.ensures) in
    record { run_in = d; a_in = s.first; b_in = s.second; c_in = s.third; receiver_in = s.receiver }
