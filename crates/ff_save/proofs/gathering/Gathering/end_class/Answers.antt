use Rattle.std.proofs.Common.{◌∙◌, ◌==◌, [], ◌∷◌, map, refl, ap}
use Rattle.std.proofs.lemmas.List.{map-append}
use Rattle.ff_saved_rows.specs.Drafted.{so_far, recs_of}
use Rattle.ff_save.specs.Holding.{held_by}
use Rattle.ff_save.proofs.Collecting.{class_ended, spoiled_by}
use Rattle.ff_save.proofs.gathering.Gathering.end_class.Goals as goal

pub returns-clause-value : goal.returns-clause-value
returns-clause-value g c gathered holds =
    spoiled_by c.args.self.now.fuel gathered (held_by g.B.Reactor.state c.args.self.now) (recs_of c.in_ok-recs.recs) c.in_ok-stores.field-0 c.is_empty.result holds (c.in_ok-recs.ensures ∙ ap so_far c.replace-draft.ensures.value) c.in_ok-stores.ensures.value c.in-None.is (c.is_empty.ensures ∙ ap (λ n. n == 0) c.args.self.now.classes.ok.0) c.if-is_empty.false

pub returns-in-Some-clause-value : goal.returns-in-Some-clause-value
returns-in-Some-clause-value g c gathered holds =
    class_ended c.args.self.now.fuel gathered (held_by g.B.Reactor.state c.args.self.now) _ (recs_of c.in_ok-recs.recs) c.in_ok-stores.field-0 c.in-Some.stores (g.B.Reactor.state c.restore-browser.result) c.is_empty.result holds (c.in_ok-recs.ensures ∙ ap so_far c.replace-draft.ensures.value) c.in_ok-stores.ensures.value c.in-Some.is
    c.restore-browser.ensures (c.is_empty.ensures ∙ ap (λ n. n == 0) c.args.self.now.classes.ok.0) c.if-is_empty.false refl refl (ap (map g.B.Reactor.state) c.in_ok-push-in-Some.ensures.items ∙ map-append g.B.Reactor.state c.args.self.now.browsers.items (c.restore-browser.result ∷ [])) (ap so_far c.replace-draft.ensures.after ∙ c.new.ensures)
