use Rattle.std.proofs.Common.{List, get_or, ◌∙◌, ap, sym, length, arith}
use Rattle.std.proofs.lemmas.List.{with_items_is}
use Rattle.std.proofs.lemmas.Result.{on_ok_weaker}
use Rattle.ff_confinement.specs.Worlds.{leader, offer}
use Rattle.ff_confinement.proofs.Classes.{length-split}
use Rattle.ff_value.specs.Same.{same_input}
use Rattle.ff_pool.specs.Heads.{Head, offer_head}
use Rattle.ff_pool.proofs.Parting.{same_input_decides}
use Rattle.ff_pool.proofs.parts.Parts.arrive.Goals as goal

pub offer_heads-requires-clause-heads : goal.offer_heads-requires-clause-heads
offer_heads-requires-clause-heads g c =
    let long = ap length (c.as_slice.ensures.value ∙ c.in_ok-part.ensures.leaders) ∙ length-split same_input same_input_decides c.args.self.now.leaders.items c.args.offers.now in
    ap length c.as_mut_slice.ensures.value ∙ c.part.ensures.heads ∙ c.requires.heads ∙ sym long

pub offer_heads-requires-clause-count : goal.offer_heads-requires-clause-count
offer_heads-requires-clause-count g c =
    let long = ap length (c.as_slice.ensures.value ∙ c.in_ok-part.ensures.leaders) ∙ length-split same_input same_input_decides c.args.self.now.leaders.items c.args.offers.now in
    c.requires.count ∙ sym long

pub returns-clause-arrived : goal.returns-clause-arrived
returns-clause-arrived g c =
    let leaders_are = c.as_slice.ensures.value ∙ c.in_ok-part.ensures.leaders in
    let long = ap length leaders_are ∙ length-split same_input same_input_decides c.args.self.now.leaders.items c.args.offers.now in
    let parted = c.part.new.self.heads in
    let heads_are = with_items_is parted c.offer_heads.new.heads (c.offer_heads.auto.heads ∙ ap length c.as_mut_slice.ensures.value ∙ (omega (arith, parted.ok))) in
    on_ok_weaker c.offer_heads.result
    (λ done d l lt leads.
    ap (λ (hs : List Head). get_or hs l d) heads_are
    ∙ done l d (omega (arith, long, lt)) (ap (λ js. leader js l) leaders_are ∙ leads)
    ∙ ap (λ (hs : List Head). offer_head (get_or hs l d) (offer c.args.offers.now l)) c.as_mut_slice.ensures.value
    ∙ ap (λ h. offer_head h (offer c.args.offers.now l)) (c.in_ok-part.ensures.forked l d lt (ap (λ js. leader js l) c.in_ok-part.ensures.leaders ∙ leads)))
    c.offer_heads.ensures
