use Rattle.std.proofs.Common.{sym, rules, ◌∙◌}
use Rattle.geometry.proofs.Turning.{turned_ok, turned_err}
use Rattle.geometry.proofs.light.Bearing.turn.Goals as goal

pub returns-then-is_lawful : goal.returns-then-is_lawful
returns-then-is_lawful c =
    turned_ok c.args.self (search rules) (search rules) (search rules) _ _ _ c.wrapping_neg.ensures c.wrapping_neg-2.ensures c.wrapping_neg-3.ensures (sym c.is_lawful.ensures ∙ c.if-is_lawful.true)

pub returns-else-is_lawful : goal.returns-else-is_lawful
returns-else-is_lawful c =
    turned_err c.args.self (search rules) (search rules) (search rules) _ _ _ c.wrapping_neg.ensures c.wrapping_neg-2.ensures c.wrapping_neg-3.ensures (sym c.is_lawful.ensures ∙ c.if-is_lawful.false)
