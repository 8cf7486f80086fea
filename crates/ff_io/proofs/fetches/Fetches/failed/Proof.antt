-- An empty body: the borrow is opened, and closed at a list with one fetch more, which failed.
use Rattle.ff_io.proofs.Walking.{[], ◌∷◌, ◌++◌, None, refl, length, w64, proved, id⊢, ftrue, flft, named, vunit, ‵, ◌⊛◌, ◌$◌, ◌∵◌, !, qed, done, move, keep, use1, split, join, fsplit3, feq_i, suffices, frame, group, enter, of_opd, unit_lit, returns, alloc_all, pass_all, free_all, look_at, sets, u8, u64, yes, uint_vals, uint_Tells, MutRef, mut_vals, mut_Tells, plain, ShrSlice, slice_val, shr_slice_vals, shr_slice_Tells, nothing, opens, closes, Stays, walk_of, says, stay_ref, stay_none_slice, stay_dropped, Goes-ref, Goes-none_slice, Goes-dropped, ends_at}
use Rattle.ff_io.specs.Shelf.{fetched}
use Rattle.ff_io.specs.declared.fetches.Fetches.{Fetches}
use Rattle.ff_io.specs.contracts.fetches.Fetches.{the_row}
use Rattle.ff_io.specs.contracts.fetches.Fetches.failed as f
use Rattle.ff_io.proofs.fetches.Fetches.failed.Statement.{statement}
use Rattle.ff_io.proofs.fetches.Fetches.failed.Code as code

abbrev stayed : Stays f.ended.signature.params f.ended.kept
stayed = (stay_ref (0 ∷ []) tt (plain (λ _. the_row)), (stay_none_slice (1 ∷ []) tt (plain (λ _. u8)) yes, (stay_dropped _ yes, tt)))

pub failed_spec : {M : Type 1} → statement M
failed_spec 𝓤 𝓛 𝓜 𝓡 wired =
    let c = f.clauses 𝓛 𝓜.mem 𝓡.returns in let W = walk_of 𝓛 f.ended stayed c in
    let goes = Goes-dropped 𝓛 2 (plain (λ _. u64)) yes (λ κs x w. refl) in
    proved 𝓛 f.ended stayed c 𝓜 𝓡
    (Goes-ref 𝓛 2 0 tt (plain (λ _. the_row)), (Goes-none_slice 𝓛 2 (1 ∷ []) tt (plain (λ _. u8)) yes, (goes, tt)))
    f.Key.name code.function (code.unfolded 𝓤 𝓛.H 𝓜 𝓡 wired)
    (λ κs. (mut_vals, (shr_slice_vals, (uint_vals w64, tt))))
    (λ κs. (mut_Tells (named 0) κs.0 the_row, (shr_slice_Tells (named 1) κs.1.0 u8, (uint_Tells w64, tt)))) (λ κs qs bounds a g are.
    let b = a.0.ref_ptr.0 in let o = a.0.ref_ptr.1 in let name = a.1.0 in let place = a.1.1.0 in
    let vs = mut_vals a.0 in let ns = slice_val name.ref_ptr (length name.now) ∷ [] in let ps = uint_vals w64 place in
    let now : Fetches = record { noted = a.0.now.noted ++ fetched name.now place None ∷ [] } in
    let y : W.Ghost = ((κs, qs, bounds, a, (vs, (ns, (ps, tt)))), g) in
    qed 𝓛 (((‵ (flft κs.0 qs.0) ⊛ ‵ (flft κs.1.0 qs.1.0) ⊛ ‵ ftrue)
    ⊛ ‵ ((MutRef (named 0) κs.0 the_row).own_val a.0 vs) ⊛ ‵ ((ShrSlice (named 1) κs.1.0 u8).own_val name ns) ⊛ ‵ (u64.own_val place ps) ⊛ ‵ ftrue) ∷ ‵ ftrue ∷ []) ∵
    split ! $ split ! $ move ! (1 ∷ []) $ split ! $ move ! (3 ∷ []) $ split ! $ move ! (1 ∷ []) $ split ! $ move ! (1 ∷ []) $ split ! $
    keep ! (3 ∷ 6 ∷ 2 ∷ 4 ∷ []) $
    -- [the list; its token; the name; its token]
    enter ! _ _ _ _ _ $
    alloc_all ! (λ l. pass_all ! refl ((tt, tt), ((tt, (tt, (record { fits = are.1.0.0.1.0 }, tt))), ((tt, record { fits = are.1.1.0.1 }), tt))) $
    fsplit3 ! $ move ! (1 ∷ 2 ∷ 3 ∷ []) $ opens ! tt the_row b o (λ us.
    sets ! (of_opd ! (unit_lit !)) refl (tt, tt) $
    move ! (1 ∷ []) $ use1 𝓛 (‵ (the_row.own_val now us)) (id⊢ 𝓤 _) $ move ! (1 ∷ 0 ∷ []) $ closes ! tt the_row now us b o $
    returns ! (look_at ! 0 refl) $ free_all ! refl $
    -- [two parts of the list; its token; its first part; the name; its token]
    move ! (3 ∷ []) $ suffices ! _ (ends_at 𝓛 f.ended stayed c y vunit tt (now, (tt, (tt, tt))) (tt, (tt, (tt, tt)))) $ says ! refl $ group ! 3 $
    nothing ! $ move ! (4 ∷ 0 ∷ []) $ join ! $ move ! (2 ∷ 0 ∷ []) $ join ! $ frame ! $
    nothing ! $ nothing ! $ join ! $ move ! (2 ∷ 0 ∷ []) $ join ! $ move ! (1 ∷ 0 ∷ []) $ join ! $ frame ! $
    feq_i ! _ (vunit ∷ []) _ refl $ done !)))
