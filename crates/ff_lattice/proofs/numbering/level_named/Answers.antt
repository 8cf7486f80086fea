use Rattle.std.proofs.Common.{[], sym, ap}
use Rattle.std.specs.Cmp.Lexicographic.{same_text}
use Rattle.std.proofs.lemmas.List.Quantifiers.{position-Some}
use Rattle.ff_lattice.specs.declared.fault.LatticeFault.TheVariants.{Unknown}
use Rattle.ff_lattice.proofs.NameLemmas.{no_level_from_any}
use Rattle.ff_lattice.proofs.numbering.level_named.Goals as goal

pub returns-in-Some-clause-found : goal.returns-in-Some-clause-found
returns-in-Some-clause-found c =
    (c.in-Some.ensures.within, sym (same_text _ _ (sym (position-Some _ c.args.levels.now.keys c.in-Some.place [] (sym c.in-Some.ensures.index)).1)))

pub returns-in_ok-copy-in-None-clause-fault : goal.returns-in_ok-copy-in-None-clause-fault
returns-in_ok-copy-in-None-clause-fault c = λ _. (ap Unknown c.in_ok-copy-in-None.ensures, λ level. no_level_from_any c.args.levels.now.keys c.args.name.now (sym c.in-None.ensures.found) level.0 level.1 level.2)
