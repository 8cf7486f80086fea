use Rattle.std.proofs.Common.{[], ◌∷◌, ◌++◌, Some, ap, ◌∙◌}
use Rattle.ff_saved_rows.specs.Drafted.{so_far}
use Rattle.ff_saved_rows.specs.Drafting.{and_then, with_acts}
use Rattle.ff_saved_rows.proofs.Adding.{last_changed}
use Rattle.ff_saved_rows.proofs.Gathering.{var_more}
use Rattle.ff_saved_rows.proofs.draft.Draft.add_var.Goals as goal

pub returns-in_ok-push-in-Some-2 : goal.returns-in_ok-push-in-Some-2
returns-in_ok-push-in-Some-2 c =
    let act = c.in-Some.act in
    ap (λ o. and_then o (λ acts. Some (with_acts (so_far c.args.self.now) acts)))
    (last_changed (var_more c.args.var) c.args.self.now.acts.items c.pop.new.self.items c.push-in-Some.new.self.items act (record { parent = act.parent; vars = c.from_vec-in-Some.result }) c.in-Some.ensures.items
    (ap (λ vs. record { parent = act.parent; vars = vs }) (c.from_vec-in-Some.ensures ∙ c.in_ok-push-in-Some.ensures.items ∙ ap (λ vs. vs ++ c.args.var ∷ []) (c.into_vec-vars.ensures ∙ c.replace.ensures.value)))
    c.in_ok-push-in-Some-2.ensures.items)
