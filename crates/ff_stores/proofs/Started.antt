-- Scripts that are started one after another.
use Rattle.std.proofs.Common.{◌≡◌, ℕ, ◌+◌, ◌<◌, ◌≤◌, Bool, true, false, cond, ◌==◌, List, [], ◌∷◌, ◌++◌, length, drop, get_or, refl, sym, ap, subst, ◌∙◌, append-nil, append_assoc, arith, add-one, drop-cons, length-set}
use Rattle.std.proofs.lemmas.Bool.{eq-eqb}
use Rattle.ff_contract.specs.Appending.{AppendsFront}
use Rattle.ff_contract.proofs.Sequence.{front_first, front_second}
use Rattle.ff_confinement.specs.Turns.{Stepped}
use Rattle.ff_name.specs.declared.urls.Url.TheVariants as url
use Rattle.ff_value.specs.declared.ids.NodeId.{NodeId}
use Rattle.ff_value.specs.declared.ids.PageId.{PageId}
use Rattle.ff_value.specs.declared.output.Out.{Out}
use Rattle.ff_machine.specs.declared.records.Shape.{Shape}
use Rattle.ff_machine.specs.declared.records.Shape.TheVariants as shape
use Rattle.ff_machine.specs.Nodes.{node_at, scripts, started, Walk}
use Rattle.ff_machine.specs.Stores as stores
use Rattle.ff_machine.specs.Stores.{Stores, start_one, start_each}
use Rattle.ff_machine.specs.Valid.{IsStores}
use Rattle.ff_laws.proofs.Sums.{if_so}
use Rattle.ff_laws.proofs.Starting.{AreUnstarted, filter_unstarted, others_unstarted}
use Rattle.ff_laws.proofs.Walks.{times, scripts_once}

chosen_pages : (n : ℕ) (b : Bool) (x y : Stepped Out Stores) → length x.after.windows.pages ≡ n → length y.after.windows.pages ≡ n → length (cond b x y).after.windows.pages ≡ n
chosen_pages n true x y g h = g
chosen_pages n false x y g h = h

-- a script that begins makes no page
pub begun_pages : (s : Stores) (page : PageId) (x : Shape) → length (stores.begun s page x).after.windows.pages ≡ length s.windows.pages
begun_pages s page (shape.Script x begun body) = length-set s.windows.pages page.0 _
begun_pages s page (shape.Src x begun url.Blank) = refl
begun_pages s page (shape.Src x begun (url.At domain uri)) =
    chosen_pages (length s.windows.pages) (stores.has_ask_room s domain) _ _ (length-set s.windows.pages page.0 _) (length-set s.windows.pages page.0 _)
begun_pages s page other = refl

-- a loop has started the first i scripts, which put `done`: the others, each once in the list, give
-- the rest of what all give
pub record IsStarting (page : PageId) (all : List NodeId) (first : Stores) (puts : List Out) (i : ℕ) (now : Stores) (so_far : List Out) : Type 0 where
  pub done : List Out
  pub so_far_is : so_far ≡ puts ++ done
  pub total_is : (start_each page all first).outputs ≡ done ++ (start_each page (drop i all) now).outputs
  pub after_is : (start_each page all first).after ≡ (start_each page (drop i all) now).after
  pub left : AreUnstarted now.nodes (drop i all)
  pub once : (m : NodeId) → times m (drop i all) ≤ 1
  pub there : page.0 < length now.windows.pages

-- at the beginning
pub started_none : (page : PageId) (n : NodeId) (first : Stores) (puts : List Out) → IsStores first → page.0 < length first.windows.pages → IsStarting page (scripts first.nodes n) first puts 0 first puts
started_none page n first puts valid there = record {
  done = [];
  so_far_is = sym (append-nil puts);
  total_is = refl;
  after_is = refl;
  left = filter_unstarted first.nodes (Walk first.nodes n);
  once = scripts_once first.nodes valid.nodes.trees n;
  there = there;
}

-- the next one of those that are left
next_is : (all : List NodeId) (i : ℕ) (d n : NodeId) → i < length all → n ≡ get_or all i d → drop i all ≡ n ∷ drop (i + 1) all
next_is all i d n within is = rw (add-one, is) (drop-cons all i d within)

no_more : (b : Bool) (k : ℕ) → b ≡ true → if_so b + k ≤ 1 → k ≡ 0
no_more true k e h = omega (arith, h)
no_more false k e h = cc

fewer : (b : Bool) (k : ℕ) → if_so b + k ≤ 1 → k ≤ 1
fewer b k h = omega (arith, h)

module _ (page : PageId) (all : List NodeId) (first : Stores) (puts : List Out) (i : ℕ) (now : Stores) (so_far : List Out) (n d : NodeId) (so : IsStarting page all first puts i now so_far) (within : i < length all) (is : n ≡ get_or all i d) where
  left_is : drop i all ≡ n ∷ drop (i + 1) all
  left_is = next_is all i d n within is

  once_left : (m : NodeId) → times m (n ∷ drop (i + 1) all) ≤ 1
  once_left m = subst (λ (ns : List NodeId). times m ns ≤ 1) left_is (so.once m)

  none_left : times n (drop (i + 1) all) ≡ 0
  none_left = no_more (n.0 == n.0) (times n (drop (i + 1) all)) (eq-eqb n.0 n.0 refl) (once_left n)

  -- one script more was started
  pub started_more : (new : Stores) (more : List Out) → new ≡ (start_one page n now).after → more ≡ so_far ++ (start_one page n now).outputs → IsStarting page all first puts (i + 1) new more
  started_more new more made put =
      let one = (start_one page n now).outputs in
      let total = rw left_is at so.total_is in
      let after = rw left_is at so.after_is in
      let t : Stores = record now { nodes = started now.nodes n } in
      record {
        done = so.done ++ one;
        so_far_is = put ∙ ap (λ os. os ++ one) so.so_far_is ∙ append_assoc puts so.done one;
        total_is = rw made (total ∙ sym (append_assoc so.done one (start_each page (drop (i + 1) all) (start_one page n now).after).outputs));
        after_is = rw made after;
        left = rw made (others_unstarted page n now (drop (i + 1) all) none_left (subst (AreUnstarted now.nodes) left_is so.left).1);
        once = λ m. fewer (n.0 == m.0) (times m (drop (i + 1) all)) (once_left m);
        there = rw made (let same = begun_pages t page (node_at now.nodes n).shape in omega (arith, same, so.there));
      }

  -- memory was refused to one script
  pub started_refused : (more : List Out) → AppendsFront so_far more (start_one page n now).outputs → AppendsFront puts more (start_each page all first).outputs
  started_refused more f =
      let one = (start_one page n now).outputs in
      let rest = (start_each page (drop (i + 1) all) (start_one page n now).after).outputs in
      let total = rw left_is at so.total_is in
      rw total (front_second puts so_far more so.done (one ++ rest) (so.done ++ (one ++ rest)) refl so.so_far_is (front_first so_far more one rest (one ++ rest) refl f))
