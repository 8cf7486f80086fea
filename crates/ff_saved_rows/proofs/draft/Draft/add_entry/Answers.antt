use Rattle.std.proofs.Common.{[], ◌∷◌, ◌++◌, Some, ap, ◌∙◌}
use Rattle.ff_saved_rows.specs.Drafted.{so_far}
use Rattle.ff_saved_rows.specs.Drafting.{and_then, with_pages}
use Rattle.ff_saved_rows.proofs.Adding.{last_changed}
use Rattle.ff_saved_rows.proofs.Gathering.{entry_more}
use Rattle.ff_saved_rows.proofs.draft.Draft.add_entry.Goals as goal

pub returns-in_ok-push-in-Some-2 : goal.returns-in_ok-push-in-Some-2
returns-in_ok-push-in-Some-2 c =
    let page = c.in-Some.page in
    ap (λ o. and_then o (λ pages. Some (with_pages (so_far c.args.self.now) pages)))
    (last_changed (entry_more c.args.entry) c.args.self.now.pages.items c.pop.new.self.items c.push-in-Some.new.self.items page (record { url = page.url; win = page.win; root = page.root; act = page.act; next = page.next; queue = c.from_vec-in-Some.result }) c.in-Some.ensures.items
    (ap (λ es. record { url = page.url; win = page.win; root = page.root; act = page.act; next = page.next; queue = es }) (c.from_vec-in-Some.ensures ∙ c.in_ok-push-in-Some.ensures.items ∙ ap (λ es. es ++ c.args.entry ∷ []) (c.into_vec-queue.ensures ∙ c.replace.ensures.value)))
    c.in_ok-push-in-Some-2.ensures.items)
