-- A variable more: the cells with it are held, and the activations have it.
use Rattle.std.proofs.Common.{◌≡◌, ℕ, suc, ◌+◌, ◌<◌, ◌≤◌, ◌⊎◌, inl, inr, ⊎_elim, true, false, ◌&&◌, Option, Some, None, List, [], ◌∷◌, ◌++◌, length, get_or, set, bytes_eq, option_and_then, refl, sym, ap, subst, ◌∙◌, arith}
use Rattle.std.specs.List.{slice_get}
use Rattle.std.specs.FinMap as finmap
use Rattle.std.proofs.lemmas.Bool.{cases_eq, eq-eqb}
use Rattle.std.proofs.lemmas.Option.{slice_get_within, slice_get-get_or, get_or_from_slice_get}
use Rattle.std.proofs.lemmas.List.{length-set, length_push}
use Rattle.std.proofs.lemmas.Slice.Eq.{bytes_eq-Decides}
use Rattle.ff_value.specs.declared.ids.ActId.{ActId}
use Rattle.ff_value.specs.declared.value.Val.{Val}
use Rattle.ff_machine.specs.declared.limits.TheConstants.{MOST_VARS}
use Rattle.ff_machine.specs.Windows.{vars_of, set_var, count_vars}
use Rattle.ff_acts.specs.declared.cells.ActCell.{ActCell}
use Rattle.ff_acts.specs.declared.cells.VarCell.{VarCell}
use Rattle.ff_acts.specs.declared.searching.Place.{Place}
use Rattle.ff_acts.specs.declared.searching.Place.TheVariants.{Top, Left, Right}
use Rattle.ff_acts.specs.Digits.{digits}
use Rattle.ff_acts.specs.Held.{is_var, found, top_of, seen, IsLink, HasLinks, IsActCell, AreFound, AreHeld}
use Rattle.ff_acts.specs.Stops.{LivesAt, link_at, after_place, put_top, put_link, no_act_cell, no_var_cell, Stays, Extends, IsOpen}
use Rattle.ff_acts.proofs.Places.{get_set_same, get_set_other, get_push_old, get_push_new, pushed, some_of}
use Rattle.ff_acts.proofs.Holders.{absent}
use Rattle.ff_acts.proofs.Paths.{found_within, found_extends}
use Rattle.ff_acts.proofs.Rows.{Has, Writes, sets}
use Rattle.ff_acts.proofs.Seen.{KeepParents, seen_set, length_seen, count_new}

-- a link is the one that it was, or led nowhere and leads to this place
abbrev LinkGrows : ℕ → Option ℕ → Option ℕ → Type 0
LinkGrows n old new = (new ≡ old) ⊎ ((old ≡ None) × (new ≡ Some n))

-- a variable is the one that it was, and its links are or lead to this place
record VarGrows (n : ℕ) (old new : VarCell) : Type 0 where
  owner : new.owner ≡ old.owner
  name : new.name ≡ old.name
  value : new.value ≡ old.value
  left : LinkGrows n old.left new.left
  right : LinkGrows n old.right new.right

record ActGrows (n : ℕ) (old new : ActCell) : Type 0 where
  parent : new.parent ≡ old.parent
  top : LinkGrows n old.top new.top

stays : (n : ℕ) (old new : Option ℕ) → LinkGrows n old new → Stays old new
stays n old new grows k e = ⊎_elim (λ h. h ∙ e) (λ h. let no : None ≡ Some k = sym h.0 ∙ e in cc) grows

same_cell : (n : ℕ) (cell : VarCell) → VarGrows n cell cell
same_cell n cell = record { owner = refl; name = refl; value = refl; left = inl refl; right = inl refl }

module _ (acts : List ActCell) (cells : List VarCell) (held : AreHeld acts cells) (a : ActId) (x : List ℕ) (v : Val) (place : Place)
    (lives : a.0 < length acts) (open_at : IsOpen (top_of acts a) cells a x place) (room : length cells < MOST_VARS) where
  abbrev n : ℕ
  n = length cells

  abbrev cell : VarCell
  cell = record { owner = a; name = x; value = v; left = None; right = None }

  later : List ActCell
  later = put_top acts a place n

  linked : List VarCell
  linked = put_link cells place n

  new : List VarCell
  new = linked ++ cell ∷ []

  -- Lengths.

  len_put_top : (p : Place) → length (put_top acts a p n) ≡ length acts
  len_put_top Top = length-set acts a.0 _
  len_put_top (Left k) = refl
  len_put_top (Right k) = refl

  len_put_link : (p : Place) → length (put_link cells p n) ≡ length cells
  len_put_link Top = refl
  len_put_link (Left k) = length-set cells k _
  len_put_link (Right k) = length-set cells k _

  len_later : length later ≡ length acts
  unfolding later
  len_later = len_put_top place

  len_linked : length linked ≡ n
  unfolding linked
  len_linked = len_put_link place

  len_new : length new ≡ n + 1
  unfolding new
  len_new = length_push linked cell ∙ omega (arith, len_linked)

  -- Each cell grows.

  wrote : (k j : ℕ) (d written : VarCell) → slice_get cells j ≡ Some d → k < length cells → (j ≡ k → VarGrows n d written) → (c : VarCell) × (slice_get (set cells k written) j ≡ Some c) × VarGrows n d c
  wrote k j d written e within grows =
      ⊎_elim
      (λ same. (written, ap (slice_get (set cells k written)) same ∙ get_set_same cells k written within, grows same))
      (λ other. (d, get_set_other cells k j written other ∙ e, same_cell n d))
      (cases_eq j k)

  linked_at : (p : Place) → link_at (top_of acts a) cells p ≡ None → LivesAt cells p → (j : ℕ) (d : VarCell) → slice_get cells j ≡ Some d → (c : VarCell) × (slice_get (put_link cells p n) j ≡ Some c) × VarGrows n d c
  linked_at Top empty there j d e = (d, e, same_cell n d)
  linked_at (Left k) empty there j d e =
      let old = get_or cells k no_var_cell in
      wrote k j d (record old { left = Some n }) e there
      (λ same.
      let is : slice_get cells k ≡ Some d = ap (slice_get cells) (sym same) ∙ e in
      let old_is : old ≡ d = get_or_from_slice_get cells k d no_var_cell is in
      record {
        owner = ap (λ (c : VarCell). c.owner) old_is;
        name = ap (λ (c : VarCell). c.name) old_is;
        value = ap (λ (c : VarCell). c.value) old_is;
        left = inr (sym (ap (option_and_then (λ (c : VarCell). c.left)) is) ∙ empty, refl);
        right = inl (ap (λ (c : VarCell). c.right) old_is);
      })
  linked_at (Right k) empty there j d e =
      let old = get_or cells k no_var_cell in
      wrote k j d (record old { right = Some n }) e there
      (λ same.
      let is : slice_get cells k ≡ Some d = ap (slice_get cells) (sym same) ∙ e in
      let old_is : old ≡ d = get_or_from_slice_get cells k d no_var_cell is in
      record {
        owner = ap (λ (c : VarCell). c.owner) old_is;
        name = ap (λ (c : VarCell). c.name) old_is;
        value = ap (λ (c : VarCell). c.value) old_is;
        left = inl (ap (λ (c : VarCell). c.left) old_is);
        right = inr (sym (ap (option_and_then (λ (c : VarCell). c.right)) is) ∙ empty, refl);
      })

  topped_at : (p : Place) → link_at (top_of acts a) cells p ≡ None → (j : ℕ) (d : ActCell) → slice_get acts j ≡ Some d → (c : ActCell) × (slice_get (put_top acts a p n) j ≡ Some c) × ActGrows n d c
  topped_at Top empty j d e =
      let old = get_or acts a.0 no_act_cell in
      let written : ActCell = record old { top = Some n } in
      ⊎_elim
      (λ same.
      let is : slice_get acts a.0 ≡ Some d = ap (slice_get acts) (sym same) ∙ e in
      let old_is : old ≡ d = get_or_from_slice_get acts a.0 d no_act_cell is in (
        written,
        ap (slice_get (set acts a.0 written)) same ∙ get_set_same acts a.0 written lives,
        record {
          parent = ap (λ (c : ActCell). c.parent) old_is;
          top = inr (sym (ap (option_and_then (λ (c : ActCell). c.top)) is) ∙ empty, refl);
        },
      ))
      (λ other. (d, get_set_other acts a.0 j written other ∙ e, record { parent = refl; top = inl refl }))
      (cases_eq j a.0)
  topped_at (Left k) empty j d e = (d, e, record { parent = refl; top = inl refl })
  topped_at (Right k) empty j d e = (d, e, record { parent = refl; top = inl refl })

  var_grows : (j : ℕ) (d : VarCell) → slice_get cells j ≡ Some d → (c : VarCell) × (slice_get linked j ≡ Some c) × VarGrows n d c
  unfolding linked
  var_grows = linked_at place open_at.empty open_at.lives

  act_grows : (j : ℕ) (d : ActCell) → slice_get acts j ≡ Some d → (c : ActCell) × (slice_get later j ≡ Some c) × ActGrows n d c
  unfolding later
  act_grows = topped_at place open_at.empty

  -- where a cell comes from
  var_back : (j : ℕ) (c : VarCell) → slice_get new j ≡ Some c → ((d : VarCell) × (slice_get cells j ≡ Some d) × VarGrows n d c) ⊎ ((j ≡ n) × (c ≡ cell))
  unfolding new
  var_back j c e =
      ⊎_elim
      (λ h.
      let within : j < length cells = omega (arith, slice_get_within linked j c h, len_linked) in
      let d = get_or cells j no_var_cell in
      let is = slice_get-get_or cells j no_var_cell within in
      let grown = var_grows j d is in
      let one : Some grown.0 ≡ Some c = sym grown.1 ∙ h in
      let same : grown.0 ≡ c = cc in
      inl (d, is, subst (VarGrows n d) same grown.2))
      (λ h. inr (h.0 ∙ len_linked, h.1))
      (pushed linked j cell c e)

  act_back : (j : ℕ) (c : ActCell) → slice_get later j ≡ Some c → (d : ActCell) × (slice_get acts j ≡ Some d) × ActGrows n d c
  act_back j c e =
      let within : j < length acts = omega (arith, slice_get_within later j c e, len_later) in
      let d = get_or acts j no_act_cell in
      let is = slice_get-get_or acts j no_act_cell within in
      let grown = act_grows j d is in
      let one : Some grown.0 ≡ Some c = sym grown.1 ∙ e in
      let same : grown.0 ≡ c = cc in
      (d, is, subst (ActGrows n d) same grown.2)

  -- The cells extend those before.

  new_at : slice_get new n ≡ Some cell
  unfolding new
  new_at = get_push_new linked n cell (sym len_linked)

  old_at : (j : ℕ) (d : VarCell) → slice_get cells j ≡ Some d → (c : VarCell) × (slice_get new j ≡ Some c) × VarGrows n d c
  unfolding new
  old_at j d e = let grown = var_grows j d e in (grown.0, get_push_old linked j cell grown.0 grown.1, grown.2)

  extends : Extends cells new
  extends j d e =
      let grown = old_at j d e in (
        grown.0,
        grown.1,
        record {
          owner = grown.2.owner;
          name = grown.2.name;
          left = stays n d.left grown.0.left grown.2.left;
          right = stays n d.right grown.0.right grown.2.right;
        },
      )

  top_stays : (b : ActId) → Stays (top_of acts b) (top_of later b)
  top_stays b k e =
      let s = some_of (λ (act : ActCell). act.top) (slice_get acts b.0) k e in
      let grown = act_grows b.0 s.0 s.1 in
      ap (option_and_then (λ (act : ActCell). act.top)) grown.1 ∙ stays n s.0.top grown.0.top grown.2.top k s.2

  leads_at : (p : Place) → LivesAt cells p → link_at (top_of (put_top acts a p n) a) (put_link cells p n ++ cell ∷ []) p ≡ Some n
  leads_at Top there = ap (option_and_then (λ (act : ActCell). act.top)) (get_set_same acts a.0 (record (get_or acts a.0 no_act_cell) { top = Some n }) lives)
  leads_at (Left k) there =
      let written : VarCell = record (get_or cells k no_var_cell) { left = Some n } in
      ap (option_and_then (λ (c : VarCell). c.left)) (get_push_old (set cells k written) k cell written (get_set_same cells k written there))
  leads_at (Right k) there =
      let written : VarCell = record (get_or cells k no_var_cell) { right = Some n } in
      ap (option_and_then (λ (c : VarCell). c.right)) (get_push_old (set cells k written) k cell written (get_set_same cells k written there))

  leads : link_at (top_of later a) new place ≡ Some n
  unfolding later linked new
  leads = leads_at place open_at.lives

  low_place : (p : Place) → LivesAt cells p → suc (after_place p) ≤ length cells + 1
  low_place Top there = omega arith
  low_place (Left k) there = omega arith
  low_place (Right k) there = omega arith

  mine : is_var a x cell ≡ true
  mine = ap (λ b. b && bytes_eq x x) (eq-eqb a.0 a.0 refl) ∙ (bytes_eq-Decides x x).1 refl

  new_found : AreFound later new
  new_found j c e =
      ⊎_elim
      (λ h.
      let f : ActId → List ℕ → Option ℕ = λ o y. found (length new) new o y (digits y) (top_of later o) in
      ap (λ o. f o c.name) h.2.owner ∙ ap (f h.0.owner) h.2.name
      ∙ found_within (length cells) (length new) new h.0.owner h.0.name (digits h.0.name) (top_of later h.0.owner) j (omega (arith, len_new))
      (found_extends (length cells) cells new h.0.owner h.0.name (digits h.0.name) (top_of acts h.0.owner) (top_of later h.0.owner) j extends (top_stays h.0.owner) (held.each_var j h.0 h.1)))
      (λ h.
      let f : VarCell → Option ℕ = λ d. found (length new) new d.owner d.name (digits d.name) (top_of later d.owner) in
      ap f h.1
      ∙ found_within (suc (after_place place)) (length new) new a x (digits x) (top_of later a) n (omega (arith, low_place place open_at.lives, len_new)) (open_at.leads (top_of later a) new n cell (top_stays a) extends leads new_at mine)
      ∙ ap Some (sym h.0))
      (var_back j c e)

  -- Links.

  link_low : (low : ℕ) (old link : Option ℕ) → IsLink cells low old → low ≤ n → LinkGrows n old link → IsLink new low link
  link_low low old link is le grows k e =
      ⊎_elim
      (λ h. let p = is k (sym h ∙ e) in (p.0, omega (arith, p.1, len_new)))
      (λ h. let one : Some n ≡ Some k = sym h.1 ∙ e in let at_n : n ≡ k = cc in (omega (arith, at_n), omega (arith, at_n, len_new)))
      grows

  no_links : (j : ℕ) → HasLinks new j cell
  no_links j = record { left = λ k e. let no : None ≡ Some k = e in cc; right = λ k e. let no : None ≡ Some k = e in cc }

  new_links : (j : ℕ) (c : VarCell) → slice_get new j ≡ Some c → HasLinks new j c
  new_links j c e =
      ⊎_elim
      (λ h.
      let old = held.links j h.0 h.1 in
      let within = slice_get_within cells j h.0 h.1 in
      record {
        left = link_low (suc j) h.0.left c.left old.left (omega (arith, within)) h.2.left;
        right = link_low (suc j) h.0.right c.right old.right (omega (arith, within)) h.2.right;
      })
      (λ h. subst (HasLinks new j) (sym h.1) (no_links j))
      (var_back j c e)

  new_acts : (j : ℕ) (act : ActCell) → slice_get later j ≡ Some act → IsActCell new j act
  new_acts j act e =
      let h = act_back j act e in
      let old = held.each_act j h.0 h.1 in
      record {
        parent = λ p is. old.parent p (sym h.2.parent ∙ is);
        top = link_low 0 h.0.top act.top old.top (omega arith) h.2.top;
      }

  -- What is seen.

  has_old : (b : ℕ) (y : List ℕ) (u : Val) → Has cells b y u → Has new b y u
  has_old b y u h =
      let grown = old_at h.place h.cell h.at in
      record {
        place = h.place;
        cell = grown.0;
        at = grown.1;
        owner = ap (λ (o : ActId). o.0) grown.2.owner ∙ h.owner;
        name = grown.2.name ∙ h.name;
        value = grown.2.value ∙ h.value;
      }

  has_new : (b : ℕ) (y : List ℕ) (u : Val) → Has new b y u → ((b ≡ a.0) × (y ≡ x)) ⊎ Has cells b y u
  has_new b y u h =
      ⊎_elim
      (λ old. inr (record {
        place = h.place;
        cell = old.0;
        at = old.1;
        owner = ap (λ (o : ActId). o.0) (sym old.2.owner) ∙ h.owner;
        name = sym old.2.name ∙ h.name;
        value = sym old.2.value ∙ h.value;
      }))
      (λ is. inl (sym h.owner ∙ ap (λ (c : VarCell). c.owner.0) is.1, sym h.name ∙ ap (λ (c : VarCell). c.name) is.1))
      (var_back h.place h.cell h.at)

  writes : Writes cells new a.0 x v
  writes = record {
    now = record { place = n; cell = cell; at = new_at; owner = refl; name = refl; value = refl };
    back = has_new;
    on = λ b y u h other. has_old b y u h;
  }

  keeps : KeepParents acts later
  keeps j act e = let grown = act_grows j act e in (grown.0, grown.1, grown.2.parent)

  seen_new : seen later new ≡ set_var (seen acts cells) a x v
  seen_new = seen_set acts later cells new a x v len_later keeps (sets acts later cells new held.each_var new_found a.0 x v writes) lives

  -- the activation hasn't the variable
  pub is_new : finmap.contains_key (vars_of (seen acts cells) a) x ≡ false
  is_new = absent acts cells held a x lives open_at.none

  -- the variable is the activation's
  pub grown_seen : seen (put_top acts a place (length cells)) (put_link cells place (length cells) ++ cell ∷ []) ≡ set_var (seen acts cells) a x v
  unfolding later linked new
  grown_seen = seen_new

  held_new : AreHeld later new
  held_new = record {
    few_acts = omega (arith, held.few_acts, len_later);
    few_vars = omega (arith, room, len_new);
    counted = omega (arith, ap count_vars seen_new, count_new (seen acts cells) a x v (omega (arith, length_seen acts cells)) is_new, held.counted, len_new);
    each_act = new_acts;
    links = new_links;
    each_var = new_found;
  }

  pub grown_held : AreHeld (put_top acts a place (length cells)) (put_link cells place (length cells) ++ cell ∷ [])
  unfolding later linked new
  grown_held = held_new
