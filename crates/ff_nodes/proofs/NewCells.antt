-- New cells behind others, and the nodes of documents that are laid one after another.
use Rattle.std.proofs.Common.{◌≡◌, ℕ, suc, ◌+◌, ◌<◌, ◌≤◌, Option, Some, Result, OnOk, List, [], ◌∷◌, ◌++◌, map, length, take, set, get_or, zero, arith, refl, sym, subst, ap, ◌∙◌}
use Rattle.std.specs.List.{AllByRecursion}
use Rattle.std.proofs.lemmas.List.{append_assoc, append-nil, map-append, map_more, length-append, length-map, set_at}
use Rattle.ff_tree.specs.declared.tree.Doc.{Doc}
use Rattle.ff_value.specs.declared.ids.ActId.{ActId}
use Rattle.ff_machine.proofs.LaidDocs.{doc_laid}
use Rattle.ff_value.specs.declared.ids.NodeId.{NodeId}
use Rattle.ff_machine.specs.Nodes.{Node}
use Rattle.ff_machine.specs.Documents.{Laid, laid, lay_all, lay_leaf, lay_over, numbers, size_of}
use Rattle.ff_value.specs.declared.value.Code.{Code}
use Rattle.ff_machine.specs.declared.records.Shape.{Shape}
use Rattle.ff_nodes.specs.declared.cell.NodeCell.{NodeCell}
use Rattle.ff_nodes.specs.Marked.{IsOwn}
use Rattle.ff_nodes.specs.Cells.{nodes_of}
use Rattle.ff_nodes.specs.Laying.{AreNew, HasOwn}

both : {X : Type 0} (P : X → Type 0) (xs ys : List X) → AllByRecursion P xs → AllByRecursion P ys → AllByRecursion P (xs ++ ys)
both P [] ys h k = k
both P (x ∷ xs) ys h k = (h.0, both P xs ys h.1 k)

-- nothing new
pub new_none : (cells : List NodeCell) → AreNew cells cells []
new_none cells = record { more = []; cells = sym (append-nil cells); nodes = refl; own = tt }

-- new ones, and behind them further ones
pub new_through : (a b c : List NodeCell) (xs ys : List Node) → AreNew a b xs → AreNew b c ys → AreNew a c (xs ++ ys)
new_through a b c xs ys first second = record {
  more = first.more ++ second.more;
  cells = second.cells ∙ ap (λ l. l ++ second.more) first.cells ∙ append_assoc a first.more second.more;
  nodes = map-append (λ (cell : NodeCell). cell.node) first.more second.more ∙ ap (λ l. l ++ nodes_of second.more) first.nodes ∙ ap (λ l. xs ++ l) second.nodes;
  own = both HasOwn first.more second.more first.own second.own;
}

-- another cell in the place of the first new one
pub new_root : (a b : List NodeCell) (x : Node) (ns : List Node) (cell : NodeCell) (at : ℕ) → length a ≡ at → HasOwn cell → AreNew a b (x ∷ ns) → AreNew a (set b at cell) (cell.node ∷ ns)
new_root a b x ns cell at here own new = by new.more new.cells new.nodes new.own where
  by : (more : List NodeCell) → b ≡ a ++ more → nodes_of more ≡ x ∷ ns → AllByRecursion HasOwn more → AreNew a (set b at cell) (cell.node ∷ ns)
  by [] cells nodes all = cc
  by (y ∷ ys) cells nodes all = record {
    more = cell ∷ ys;
    cells = ap (λ l. set l at cell) cells ∙ set_at a y ys cell at here;
    nodes = let rest : nodes_of ys ≡ ns = cc in ap (λ l. cell.node ∷ l) rest;
    own = (own, all.1);
  }

-- how many cells there are then
pub new_length : (a b : List NodeCell) (ns : List Node) → AreNew a b ns → length b ≡ length a + length ns
new_length a b ns new =
    ap length new.cells ∙ length-append a new.more
    ∙ ap (λ k. length a + k) (sym (length-map new.more (λ (cell : NodeCell). cell.node)) ∙ ap length new.nodes)

-- the nodes of cells with new ones
pub new_nodes : (a b : List NodeCell) (ns : List Node) → AreNew a b ns → nodes_of b ≡ nodes_of a ++ ns
new_nodes a b ns new = ap nodes_of new.cells ∙ map-append (λ (cell : NodeCell). cell.node) a new.more ∙ ap (λ l. nodes_of a ++ l) new.nodes

-- Documents one after another, and one more.

pub size_more : (ds : List Laid) (d : Laid) → size_of (ds ++ d ∷ []) ≡ size_of ds + d.size
size_more [] d = omega arith
size_more (e ∷ ds) d = let rest = size_more ds d in omega (arith, rest)

pub lay_all_more : (ds : List Laid) (d : Laid) (first : ℕ) (under : Option NodeId) → lay_all (ds ++ d ∷ []) first under ≡ lay_all ds first under ++ d.nodes (first + size_of ds) under
lay_all_more [] d first under =
    let e : first ≡ first + 0 = omega arith in
    append-nil (d.nodes first under) ∙ ap (λ k. d.nodes k under) e
lay_all_more (e ∷ ds) d first under =
    let sum : (first + e.size) + size_of ds ≡ first + (e.size + size_of ds) = omega arith in
    ap (λ l. e.nodes first under ++ l) (lay_all_more ds d (first + e.size) under)
    ∙ sym (append_assoc (e.nodes first under) (lay_all ds (first + e.size) under) (d.nodes ((first + e.size) + size_of ds) under))
    ∙ ap (λ k. (e.nodes first under ++ lay_all ds (first + e.size) under) ++ d.nodes k under) sum

pub numbers_more : (ds : List Laid) (d : Laid) (first : ℕ) → numbers (ds ++ d ∷ []) first ≡ numbers ds first ++ record { 0 = first + size_of ds } ∷ []
numbers_more [] d first =
    let e : first ≡ first + 0 = omega arith in
    ap (λ k. let n : NodeId = record { 0 = k } in n ∷ []) e
numbers_more (e ∷ ds) d first =
    let sum : (first + e.size) + size_of ds ≡ first + (e.size + size_of ds) = omega arith in
    let n : NodeId = record { 0 = first } in
    ap (λ l. n ∷ l) (numbers_more ds d (first + e.size) ∙ ap (λ k. let m : NodeId = record { 0 = k } in numbers ds (first + e.size) ++ m ∷ []) sum)

-- after one document more of a list

-- one document more is laid: the nodes, how many cells there are, and how large the documents are
pub record IsOneMore (env : ActId) (docs : List Doc) (i : ℕ) (d : Doc) (old new : List NodeCell) (under : NodeId) : Type 0 where
  pub laid_now : AreNew old new (lay_all (map (laid env) (take (i + 1) docs)) (length old) (Some under))
  pub count : length new ≡ length old + size_of (map (laid env) (take (i + 1) docs))
  pub size : size_of (map (laid env) (take (i + 1) docs)) ≡ size_of (map (laid env) (take i docs)) + (laid env d).size

-- the documents up to a place and the one there
pub taken_more : (env : ActId) (docs : List Doc) (i : ℕ) (d : Doc) → i < length docs → d ≡ get_or docs i d → map (laid env) (take (i + 1) docs) ≡ map (laid env) (take i docs) ++ laid env d ∷ []
taken_more env docs i d here is = map_more (laid env) docs i d here ∙ ap (λ e. map (laid env) (take i docs) ++ laid env e ∷ []) (sym is)

pub one_more_laid : (env : ActId) (docs : List Doc) (i : ℕ) (d : Doc) → i < length docs → d ≡ get_or docs i d → (old mid new : List NodeCell) (under : NodeId)
    → AreNew old mid (lay_all (map (laid env) (take i docs)) (length old) (Some under)) → length mid ≡ length old + size_of (map (laid env) (take i docs))
    → AreNew mid new ((laid env d).nodes (length mid) (Some under)) → IsOneMore env docs i d old new under
one_more_laid env docs i d here is old mid new under before count more =
    let ds = map (laid env) (take i docs) in
    let taken = taken_more env docs i d here is in
    let first = length old in
    let at : AreNew mid new ((laid env d).nodes (first + size_of ds) (Some under)) = subst (λ k. AreNew mid new ((laid env d).nodes k (Some under))) count more in
    let both = new_through old mid new (lay_all ds first (Some under)) ((laid env d).nodes (first + size_of ds) (Some under)) before at in
    let size : size_of (map (laid env) (take (i + 1) docs)) ≡ size_of ds + (laid env d).size = ap size_of taken ∙ size_more ds (laid env d) in
    record {
      laid_now = subst (AreNew old new) (sym (ap (λ ls. lay_all ls first (Some under)) taken ∙ lay_all_more ds (laid env d) first (Some under))) both;
      count =
          let sized = (doc_laid env d).sized (length mid) (Some under) in
          let more_length = new_length mid new ((laid env d).nodes (length mid) (Some under)) more in
          omega (arith, count, sized, more_length, size);
      size = size;
    }

-- the numbers of the topmost nodes, with one more
pub one_more_number : (env : ActId) (docs : List Doc) (i : ℕ) (d : Doc) → i < length docs → d ≡ get_or docs i d → (first k : ℕ) (ids : List NodeId)
    → ids ≡ numbers (map (laid env) (take i docs)) first → k ≡ first + size_of (map (laid env) (take i docs)) → ids ++ record { 0 = k } ∷ [] ≡ numbers (map (laid env) (take (i + 1) docs)) first
one_more_number env docs i d here is first k ids before at =
    let ds = map (laid env) (take i docs) in
    ap (λ l. let n : NodeId = record { 0 = k } in l ++ n ∷ []) before
    ∙ ap (λ j. let n : NodeId = record { 0 = j } in numbers ds first ++ n ∷ []) at
    ∙ sym (numbers_more ds (laid env d) first)
    ∙ ap (λ ls. numbers ls first) (sym (taken_more env docs i d here is))

-- documents up to a place are no larger than all of them
pub size_to_all : (env : ActId) (docs : List Doc) (i : ℕ) → size_of (map (laid env) (take i docs)) ≤ size_of (map (laid env) docs)
size_to_all env [] zero = omega arith
size_to_all env [] (suc i) = omega arith
size_to_all env (d ∷ ds) zero = omega arith
size_to_all env (d ∷ ds) (suc i) = let rest = size_to_all env ds i in omega (arith, rest)

-- and so are those up to a place with the one there
pub size_next_to_all : (env : ActId) (docs : List Doc) (i : ℕ) (d : Doc) → i < length docs → d ≡ get_or docs i d → size_of (map (laid env) (take i docs)) + (laid env d).size ≤ size_of (map (laid env) docs)
size_next_to_all env docs i d here is =
    let next : size_of (map (laid env) (take (i + 1) docs)) ≡ size_of (map (laid env) (take i docs)) + (laid env d).size = ap size_of (taken_more env docs i d here is) ∙ size_more (map (laid env) (take i docs)) (laid env d) in
    let all = size_to_all env docs (i + 1) in
    omega (arith, next, all)

-- Documents by their forms.

-- a document that is laid as a leaf
pub leaf_new : {T E : Type 0} (r : Result T E) (env : ActId) (d : Doc) (s s' : Shape) (hs hs' : List Code) (old new : List NodeCell) (under : Option NodeId) → laid env d ≡ lay_leaf s hs → s' ≡ s → hs' ≡ hs
    → OnOk r (AreNew old new ((lay_leaf s' hs').nodes (length old) under)) → OnOk r (AreNew old new ((laid env d).nodes (length old) under))
leaf_new r env d s s' hs hs' old new under form same_shape same_handlers h =
    let e : lay_leaf s' hs' ≡ laid env d = ap (λ x. lay_leaf x hs') same_shape ∙ ap (lay_leaf s) same_handlers ∙ sym form in
    subst (λ (l : Laid). OnOk r (AreNew old new (l.nodes (length old) under))) e h

-- and one that is laid as a node over others
pub over_new : {T E : Type 0} (r : Result T E) (env : ActId) (d : Doc) (s s' : Shape) (docs docs' : List Doc) (old new : List NodeCell) (under : Option NodeId) → laid env d ≡ lay_over s (map (laid env) docs) → s' ≡ s → docs' ≡ docs
    → OnOk r (AreNew old new ((lay_over s' (map (laid env) docs')).nodes (length old) under)) → OnOk r (AreNew old new ((laid env d).nodes (length old) under))
over_new r env d s s' docs docs' old new under form same_shape same_docs h =
    let e : lay_over s' (map (laid env) docs') ≡ laid env d = ap (λ x. lay_over x (map (laid env) docs')) same_shape ∙ ap (λ ds. lay_over s (map (laid env) ds)) same_docs ∙ sym form in
    subst (λ (l : Laid). OnOk r (AreNew old new (l.nodes (length old) under))) e h

-- a node that was put first, and gets its children after they were laid
pub root_new : (env : ActId) (docs : List Doc) (s : Shape) (hs : List Code) (ids : List NodeId) (under : Option NodeId) (old mid last new : List NodeCell) (blank node : Node) (cell : NodeCell) (at : ℕ)
    → at ≡ length old → AreNew old mid (blank ∷ []) → AreNew mid last (lay_all (map (laid env) docs) (length mid) (Some (record { 0 = at }))) → ids ≡ numbers (map (laid env) docs) (length mid)
    → hs ≡ [] → node ≡ record { shape = s; handlers = hs; children = ids; parent = under } → cell.node ≡ node → IsOwn node cell.marks → new ≡ set last at cell
    → AreNew old new ((lay_over s (map (laid env) docs)).nodes (length old) under)
root_new env docs s hs ids under old mid last new blank node cell at here put laid_kids ids_are no_handlers node_is cell_is own written =
    let ds = map (laid env) docs in
    let plus : length old + 1 ≡ suc (length old) = omega arith in
    let count : length mid ≡ suc (length old) = new_length old mid (blank ∷ []) put ∙ plus in
    let kids : AreNew mid last (lay_all ds (suc (length old)) (Some (record { 0 = length old }))) =
    subst (λ k. AreNew mid last (lay_all ds (suc (length old)) (Some (record { 0 = k })))) here
    (subst (λ k. AreNew mid last (lay_all ds k (Some (record { 0 = at })))) count laid_kids) in
    let all = new_through old mid last (blank ∷ []) (lay_all ds (suc (length old)) (Some (record { 0 = length old }))) put kids in
    let own_cell : HasOwn cell = subst (λ n. IsOwn n cell.marks) (sym cell_is) own in
    let root = new_root old last blank (lay_all ds (suc (length old)) (Some (record { 0 = length old }))) cell at (sym here) own_cell all in
    let is : cell.node ≡ record { shape = s; handlers = []; children = numbers ds (suc (length old)); parent = under } =
    cell_is ∙ node_is
    ∙ ap (λ h. let n : Node = record { shape = s; handlers = h; children = ids; parent = under } in n) no_handlers
    ∙ ap (λ c. let n : Node = record { shape = s; handlers = []; children = c; parent = under } in n) (ids_are ∙ ap (numbers ds) count) in
    subst (λ (l : List NodeCell). AreNew old l ((lay_over s ds).nodes (length old) under)) (sym written)
    (subst (λ (n : Node). AreNew old (set last at cell) (n ∷ lay_all ds (suc (length old)) (Some (record { 0 = length old })))) is root)
