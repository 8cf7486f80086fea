use Rattle.std.proofs.Common.{◌≡◌, List, not, filter, sym, ap, subst, ◌∙◌, rules}
use Rattle.std.proofs.lemmas.Fn.{filter_same}
use Rattle.ff_value.specs.declared.ids.WinId.{WinId}
use Rattle.ff_machine.specs.Alone.{AreWindows}
use Rattle.ff_machine.specs.Windows.{Windows, is_win, closed}
use Rattle.ff_windows.proofs.windows.Windows.remove_opened.Goals as goal

pub invariant_of-self : goal.invariant_of-self
invariant_of-self c =
    let left : c.retain.new.self.items ≡ filter (λ m. not (is_win c.args.n m)) c.self.inside.opened.items =
    filter_same _ (λ m. not (is_win c.args.n m)) _ (λ x b q h. search rules) _ _ c.retain.ensures.filtered in
    rw left (subst (λ v. AreWindows (closed v c.args.n)) (sym c.self.view_is) c.requires)

pub returns : goal.returns
returns c =
    let left : c.retain.new.self.items ≡ filter (λ m. not (is_win c.args.n m)) c.self.inside.opened.items =
    filter_same _ (λ m. not (is_win c.args.n m)) _ (λ x b q h. search rules) _ _ c.retain.ensures.filtered in
    ap (λ (ns : List WinId). let v : Windows = record { windows = c.self.inside.windows; opened = ns; pages = c.self.inside.pages; acts = c.self.inside.acts } in v) left
    ∙ ap (λ v. closed v c.args.n) c.self.view_is
