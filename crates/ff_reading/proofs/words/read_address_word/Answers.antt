use Rattle.std.proofs.Common.{Err, sym, inl, subst}
use Rattle.ff_forms.specs.Grammar.{Gives, word_as, an_address}
use Rattle.ff_reading.proofs.Addressing.{address_given, address_failed}
use Rattle.ff_reading.proofs.words.read_address_word.Goals as goal

pub returns-in-Ok : goal.returns-in-Ok
returns-in-Ok c = inl (sym (address_given c.args.at c.args.word.now c.in-Ok.url c.in-Ok.ensures.found))

pub returns-in-Err : goal.returns-in-Err
returns-in-Err c =
    subst (λ f. Gives (Err f) (word_as c.args.at c.args.word.now an_address)) (sym c.address_fault.ensures)
    (address_failed c.args.at c.args.word.now c.in-Err.fault c.in-Err.ensures.only)
