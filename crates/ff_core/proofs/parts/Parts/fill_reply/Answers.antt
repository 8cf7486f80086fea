use Rattle.std.proofs.Common.{sym, subst}
use Rattle.std.specs.Option.{option_copied}
use Rattle.ff_tree.specs.Spelled.{IsWellSpelledExpr}
use Rattle.ff_core.proofs.Answered.{body_is}
use Rattle.ff_core.proofs.parts.Parts.fill_reply.Goals as goal

pub fill_slot-requires-clause-spelled : goal.fill_slot-requires-clause-spelled
fill_slot-requires-clause-spelled g c = subst IsWellSpelledExpr (sym c.in_ok-body.ensures) (body_is (option_copied c.args.reply) c.requires.reply)
