use Rattle.std.proofs.Common.{Some, ap}
use Rattle.std.specs.Option.{option_copied}
use Rattle.ff_core.proofs.Answered.{docs_are}
use Rattle.ff_core.proofs.parts.Parts.load_reply.Goals as goal

pub loads-requires-clause-docs : goal.loads-requires-clause-docs
loads-requires-clause-docs g c = docs_are (option_copied c.args.reply) c.in-Some-Page._cookies c.in-Some-Page.docs c.requires.reply (rw c.in-Some-Page.is (ap Some (rw c.in-Some-Page.is at c.in-Some-Page.field-0-is)))
