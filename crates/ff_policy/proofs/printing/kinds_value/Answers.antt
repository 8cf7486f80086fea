use Rattle.std.proofs.Common.{sym, ap, subst, ◌∙◌}
use Rattle.serde_json.specs.View.{members_view}
use Rattle.ff_lattice.specs.Order.{size}
use Rattle.ff_value.specs.declared.kind.Kind.TheVariants as kind
use Rattle.ff_policy.specs.Assignment.{Kinds, IsWithin}
use Rattle.ff_policy.specs.Printing.{kinds_data}
use Rattle.ff_policy.proofs.Values.{kinds_made}
use Rattle.ff_policy.proofs.printing.kinds_value.Goals as goal

pub put_kind-requires : goal.put_kind-requires
put_kind-requires c = subst (IsWithin (size c.args.lattice.now)) (sym (ap (λ (k : Kinds). k.clicks) c.kinds.view_is)) (c.requires kind.Click)

pub put_kind-requires-2 : goal.put_kind-requires-2
put_kind-requires-2 c = subst (IsWithin (size c.args.lattice.now)) (sym (ap (λ (k : Kinds). k.closes) c.kinds.view_is)) (c.requires kind.Close)

pub put_kind-requires-3 : goal.put_kind-requires-3
put_kind-requires-3 c = subst (IsWithin (size c.args.lattice.now)) (sym (ap (λ (k : Kinds). k.goes) c.kinds.view_is)) (c.requires kind.Go)

pub put_kind-requires-4 : goal.put_kind-requires-4
put_kind-requires-4 c = subst (IsWithin (size c.args.lattice.now)) (sym (ap (λ (k : Kinds). k.links) c.kinds.view_is)) (c.requires kind.Link)

pub put_kind-requires-5 : goal.put_kind-requires-5
put_kind-requires-5 c = subst (IsWithin (size c.args.lattice.now)) (sym (ap (λ (k : Kinds). k.opens) c.kinds.view_is)) (c.requires kind.Open)

pub put_kind-requires-6 : goal.put_kind-requires-6
put_kind-requires-6 c = subst (IsWithin (size c.args.lattice.now)) (sym (ap (λ (k : Kinds). k.replies) c.kinds.view_is)) (c.requires kind.Reply)

pub put_kind-requires-7 : goal.put_kind-requires-7
put_kind-requires-7 c = subst (IsWithin (size c.args.lattice.now)) (sym (ap (λ (k : Kinds). k.types) c.kinds.view_is)) (c.requires kind.Type)

pub returns : goal.returns
returns c =
    let kinds : Kinds = record { opens = c.kinds.inside.opens; goes = c.kinds.inside.goes; links = c.kinds.inside.links; closes = c.kinds.inside.closes; types = c.kinds.inside.types; clicks = c.kinds.inside.clicks; replies = c.kinds.inside.replies } in
    kinds_made c.args.lattice.now kinds c.put_kind-7.new.members _ _ _ _ _ _ _ (ap members_view c.new-members.ensures.empty)
    c.in_ok-put_kind.ensures c.in_ok-put_kind-2.ensures c.in_ok-put_kind-3.ensures c.in_ok-put_kind-4.ensures c.in_ok-put_kind-5.ensures c.in_ok-put_kind-6.ensures c.in_ok-put_kind-7.ensures
    ∙ ap (kinds_data c.args.lattice.now) c.kinds.view_is
