-- What is appended part by part, and what was after a refusal.
use Rattle.std.proofs.Common.{◌≡◌, ◌<◌, ◌≤◌, ◌+◌, ℕ, suc, zero, List, [], ◌∷◌, ◌++◌, length, map, take, drop, get_or, refl, sym, ◌∙◌, ap, arith, append_assoc, append-nil, ◌==◌, true, false, Result}
use Rattle.std.specs.List.{join_with_byte, flat_map, list_all}
use Rattle.std.specs.Char.{is_ascii_control}
use Rattle.std.proofs.lemmas.Bool.{and_parts}
use Rattle.std.proofs.lemmas.List.{take_more, take_all, take-append-drop}
use Rattle.std.proofs.lemmas.Bool.Decides.{nat_tests}
use Rattle.std.proofs.lemmas.List.Concat.{flat_map-append}
use Rattle.ff_contract.specs.Appending.{AppendsFront, Appends, AppendsAll}
use Rattle.ff_contract.proofs.Sequence.{front_done, appends_last}
use Rattle.ff_text.specs.Bytes.{is_plain_byte}
use Rattle.ff_text.specs.declared.items.Sexp.{Sexp}
use Rattle.ff_text.specs.Printed.{quoted, spelled, spelled_byte, blank_before}

-- two parts
pub append_two : (old mid new done more all : List ℕ) → new ≡ mid ++ more → mid ≡ old ++ done → all ≡ done ++ more → new ≡ old ++ all
append_two old mid new done more all e before cut = e ∙ ap (λ bs. bs ++ more) before ∙ append_assoc old done more ∙ ap (λ bs. old ++ bs) (sym cut)

quoted-is : (value : List ℕ) → quoted value ≡ 34 ∷ (flat_map spelled_byte value ++ 34 ∷ [])
unfolding quoted
quoted-is value = refl

-- a string that is cut in its value
pub quoted_joined : (done left : List ℕ) → quoted (done ++ left) ≡ (34 ∷ flat_map spelled_byte done) ++ (flat_map spelled_byte left ++ 34 ∷ [])
quoted_joined done left =
    quoted-is (done ++ left)
    ∙ ap (λ bs. 34 ∷ (bs ++ 34 ∷ [])) (flat_map-append spelled_byte done left)
    ∙ ap (λ bs. 34 ∷ bs) (append_assoc (flat_map spelled_byte done) (flat_map spelled_byte left) (34 ∷ []))

-- bytes that stand for themselves
plain_itself : (b : ℕ) → is_plain_byte b ≡ true → spelled_byte b ≡ b ∷ []
plain_itself b h =
    let mark : (b == 34) ≡ false = grind (arith, nat_tests) in
    let slash : (b == 92) ≡ false = grind (arith, nat_tests) in
    let newline : (b == 10) ≡ false = grind (arith, nat_tests) in
    let tab : (b == 9) ≡ false = grind (arith, nat_tests) in
    let control : is_ascii_control b ≡ false = grind (arith, nat_tests) in
    rw (mark, slash, newline, tab, control) refl

pub plain_spelled : (run : List ℕ) → list_all is_plain_byte run ≡ true → flat_map spelled_byte run ≡ run
plain_spelled [] h = refl
plain_spelled (b ∷ run) h =
    let parts = and_parts (is_plain_byte b) (list_all is_plain_byte run) h in
    ap (λ bs. bs ++ flat_map spelled_byte run) (plain_itself b parts.0) ∙ ap (λ bs. b ∷ bs) (plain_spelled run parts.1)

-- one byte
pub one_spelled : (left : List ℕ) → 0 < length left → flat_map spelled_byte (take 1 left) ≡ spelled_byte (get_or left 0 0)
one_spelled [] some = absurd (omega arith)
one_spelled (b ∷ left) some = append-nil (spelled_byte b)

-- the mark and what stands for the value before these bytes were appended
pub record QuotedSoFar (old now value left : List ℕ) : Type 0 where
  pub done : List ℕ
  pub joined : done ++ left ≡ value
  pub put : now ≡ old ++ (34 ∷ flat_map spelled_byte done)

pub quoted_none : (old now value : List ℕ) → now ≡ old ++ 34 ∷ [] → QuotedSoFar old now value value
quoted_none old now value e = record { done = []; joined = refl; put = e }

pub quoted_more : (old mid now value left after : List ℕ) (n : ℕ) → QuotedSoFar old mid value left → now ≡ mid ++ flat_map spelled_byte (take n left) → after ≡ drop n left → QuotedSoFar old now value after
quoted_more old mid now value left after n so_far e is = record {
  done = so_far.done ++ take n left;
  joined = append_assoc so_far.done (take n left) after ∙ ap (λ bs. so_far.done ++ bs) (ap (λ bs. take n left ++ bs) is ∙ take-append-drop n left) ∙ so_far.joined;
  put = e ∙ ap (λ bs. bs ++ flat_map spelled_byte (take n left)) so_far.put ∙ append_assoc old (34 ∷ flat_map spelled_byte so_far.done) (flat_map spelled_byte (take n left))
      ∙ ap (λ bs. old ++ 34 ∷ bs) (sym (flat_map-append spelled_byte so_far.done (take n left)));
}

pub quoted_stopped : (old mid now value left : List ℕ) → QuotedSoFar old mid value left → now ≡ mid → AppendsFront old now (quoted value)
quoted_stopped old mid now value left so_far e =
    front_done old now (quoted value) (34 ∷ flat_map spelled_byte so_far.done) (flat_map spelled_byte left ++ 34 ∷ []) (e ∙ so_far.put) (ap quoted (sym so_far.joined) ∙ quoted_joined so_far.done left)

pub quoted_whole : {X E : Type 0} (answer : Result X E) (old mid now value left : List ℕ) → QuotedSoFar old mid value left → (length left == 0) ≡ true → AppendsAll answer mid now (34 ∷ []) → Appends answer old now (quoted value)
quoted_whole answer old mid now value left so_far none e =
    appends_last answer old mid now (quoted value) (34 ∷ flat_map spelled_byte so_far.done) (34 ∷ []) e so_far.put
    (ap quoted (sym so_far.joined) ∙ quoted_joined so_far.done left ∙ ap (λ bs. (34 ∷ flat_map spelled_byte so_far.done) ++ (flat_map spelled_byte bs ++ 34 ∷ [])) (empty left none)) where
      empty : (bytes : List ℕ) → (length bytes == 0) ≡ true → bytes ≡ []
      empty [] h = refl
      empty (b ∷ bytes) h = let zero_long : suc (length bytes) ≡ 0 = grind (arith, nat_tests) in absurd (omega (arith, zero_long))

blank_before-suc : (n : ℕ) → blank_before (suc n) ≡ 32 ∷ []
blank_before-suc n = grind (arith, nat_tests)

join_snoc : (parts : List (List ℕ)) (part : List ℕ) → join_with_byte 32 (parts ++ part ∷ []) ≡ join_with_byte 32 parts ++ (blank_before (length parts) ++ part)
join_snoc [] part = refl
join_snoc (first ∷ []) part = refl
join_snoc (first ∷ second ∷ parts) part =
    ap (λ bs. first ++ 32 ∷ bs) (join_snoc (second ∷ parts) part)
    ∙ sym (append_assoc first (32 ∷ join_with_byte 32 (second ∷ parts)) (blank_before (suc (length parts)) ++ part))
    ∙ ap (λ bs. (first ++ 32 ∷ join_with_byte 32 (second ∷ parts)) ++ (bs ++ part)) (blank_before-suc (length parts) ∙ sym (blank_before-suc (suc (length parts))))

map_snoc : (items : List Sexp) (item : Sexp) → map spelled (items ++ item ∷ []) ≡ map spelled items ++ spelled item ∷ []
map_snoc [] item = refl
map_snoc (first ∷ items) item = ap (λ (ps : List (List ℕ)). spelled first ∷ ps) (map_snoc items item)

length-take-map : (i : ℕ) (items : List Sexp) → i ≤ length items → length (map spelled (take i items)) ≡ i
length-take-map zero items within = refl
length-take-map (suc i) [] within = absurd (omega arith)
length-take-map (suc i) (item ∷ items) within = ap suc (length-take-map i items (omega arith))

abbrev pub joined : List Sexp → List ℕ
joined items = join_with_byte 32 (map spelled items)

-- one item more
pub joined_more : (items : List Sexp) (i : ℕ) (d : Sexp) → i < length items → joined (take (i + 1) items) ≡ joined (take i items) ++ (blank_before i ++ spelled (get_or items i d))
joined_more items i d inside =
    ap joined (take_more items i d inside)
    ∙ ap (join_with_byte 32) (map_snoc (take i items) (get_or items i d))
    ∙ join_snoc (map spelled (take i items)) (spelled (get_or items i d))
    ∙ ap (λ n. joined (take i items) ++ (blank_before n ++ spelled (get_or items i d))) (length-take-map i items (omega arith))

-- what is joined begins with what its front is joined to
pub record BeginsWith (whole front : List ℕ) : Type 0 where
  pub rest : List ℕ
  pub cut : whole ≡ front ++ rest

join_front : (parts more : List (List ℕ)) → BeginsWith (join_with_byte 32 (parts ++ more)) (join_with_byte 32 parts)
join_front [] more = record { rest = join_with_byte 32 more; cut = refl }
join_front (part ∷ []) [] = record { rest = []; cut = sym (append-nil part) }
join_front (part ∷ []) (next ∷ more) = record { rest = 32 ∷ join_with_byte 32 (next ∷ more); cut = refl }
join_front (part ∷ next ∷ parts) more =
    let deeper = join_front (next ∷ parts) more in
    record { rest = deeper.rest; cut = ap (λ bs. part ++ 32 ∷ bs) deeper.cut ∙ sym (append_assoc part (32 ∷ join_with_byte 32 (next ∷ parts)) deeper.rest) }

map_append : (xs ys : List Sexp) → map spelled (xs ++ ys) ≡ map spelled xs ++ map spelled ys
map_append [] ys = refl
map_append (x ∷ xs) ys = ap (λ (ps : List (List ℕ)). spelled x ∷ ps) (map_append xs ys)

pub joined_front : (items : List Sexp) (i : ℕ) → BeginsWith (joined items) (joined (take i items))
joined_front items i =
    let front = join_front (map spelled (take i items)) (map spelled (drop i items)) in
    record { rest = front.rest; cut = ap joined (sym (take-append-drop i items)) ∙ ap (join_with_byte 32) (map_append (take i items) (drop i items)) ∙ front.cut }

-- and then with what stands before the next item, and that item
pub joined_cut : (items : List Sexp) (i : ℕ) (d : Sexp) → i < length items → BeginsWith (joined items) ((joined (take i items) ++ blank_before i) ++ spelled (get_or items i d))
joined_cut items i d inside =
    let front = joined_front items (i + 1) in
    record {
      rest = front.rest;
      cut = front.cut ∙ ap (λ bs. bs ++ front.rest) (joined_more items i d inside ∙ sym (append_assoc (joined (take i items)) (blank_before i) (spelled (get_or items i d))));
    }

pub append_three : (old before mid new first blank item all : List ℕ) → new ≡ mid ++ item → mid ≡ before ++ blank → before ≡ old ++ first → all ≡ first ++ (blank ++ item) → new ≡ old ++ all
append_three old before mid new first blank item all e m b cut =
    e ∙ ap (λ bs. bs ++ item) (m ∙ ap (λ bs. bs ++ blank) b) ∙ append_assoc (old ++ first) blank item ∙ append_assoc old first (blank ++ item) ∙ ap (λ bs. old ++ bs) (sym cut)

pub joined_all : (old : List ℕ) (items : List Sexp) (i : ℕ) → length items ≤ i → old ++ joined (take i items) ≡ old ++ joined items
joined_all old items i past = ap (λ (all : List Sexp). old ++ joined all) (take_all i items past)
