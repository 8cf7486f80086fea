use Rattle.std.proofs.Common.{◌≡◌, ◌<◌, [], ◌∙◌, length, arith}
use Rattle.std.proofs.lemmas.List.{get_or_read, take_all}
use borrow.Author.Count.{below_more}
use Rattle.ff_lattice.specs.Levels.{nth}
use Rattle.ff_lattice.proofs.NameLemmas.{repeat_from_added, no_repeat_from_added, keys_more}
use Rattle.ff_lattice.proofs.numbering.distinct_names.Goals as goal

pub returns-then-not-is_new-clause-fault : goal.returns-then-not-is_new-clause-fault
returns-then-not-is_new-clause-fault c =
    let in_place : c.loop-name.name-index < length c.args.names.now = omega arith in
    let name_is : c.name-item.result ≡ nth c.args.names.now c.loop-name.name-index = get_or_read c.args.names.now c.loop-name.name-index c.name-item.result in_place c.name-item.is [] in
    λ _ below. (
      c.requires,
      record {
        place = c.loop-name.name-index;
        first = record {
          within = in_place;
          shows = repeat_from_added c.args.names.now c.loop-name.levels.keys c.loop-name.name-index c.in_ok-copy.field-0 c.in_ok-is_new.is_new in_place
              c.loop-name.invariant.keys (c.in_ok-copy.ensures ∙ name_is) c.in_ok-is_new.ensures.added c.if-not-is_new.true;
          first = c.loop-name.invariant.apart;
        };
        is = c.in_ok-copy-2.ensures ∙ name_is;
      },
    )

pub loop-name-preserved : goal.loop-name-preserved
loop-name-preserved c =
    let in_place : c.loop-name.name-index < length c.args.names.now = omega arith in
    let name_is : c.name-item.result ≡ nth c.args.names.now c.loop-name.name-index = get_or_read c.args.names.now c.loop-name.name-index c.name-item.result in_place c.name-item.is [] in
    let value_is : c.in_ok-copy.field-0 ≡ nth c.args.names.now c.loop-name.name-index = c.in_ok-copy.ensures ∙ name_is in
    record {
      keys = keys_more c.args.names.now c.loop-name.levels.keys c.loop-name.name-index c.in_ok-copy.field-0 c.in_ok-is_new.is_new in_place
          c.loop-name.invariant.keys value_is c.in_ok-is_new.ensures.added c.insert_full.new.self.keys c.in_ok-is_new.ensures.keys c.if-not-is_new.false;
      apart = below_more _ _ c.loop-name.invariant.apart
          (no_repeat_from_added c.args.names.now c.loop-name.levels.keys c.loop-name.name-index c.in_ok-copy.field-0 c.in_ok-is_new.is_new in_place
          c.loop-name.invariant.keys value_is c.in_ok-is_new.ensures.added c.if-not-is_new.false);
    }

pub returns-clause-found : goal.returns-clause-found
returns-clause-found c = (
  c.loop-name.invariant.keys ∙ take_all c.loop-name.name-index c.args.names.now (omega arith),
  record { named = c.requires; apart = λ l in_l. c.loop-name.invariant.apart l (omega arith) },
)
