-- An empty body: the borrow is opened, and closed at a journal with one piece more.
use Rattle.ff_io.proofs.Walking.{[], ◌∷◌, ◌++◌, refl, length, proved, id⊢, ftrue, flft, named, vunit, ‵, ◌⊛◌, ◌$◌, ◌∵◌, !, qed, done, move, keep, use1, split, join, fsplit3, feq_i, suffices, frame, group, enter, of_opd, unit_lit, returns, alloc_all, pass_all, free_all, look_at, sets, u8, yes, MutRef, mut_vals, mut_Tells, plain, ShrSlice, slice_val, shr_slice_vals, shr_slice_Tells, nothing, opens, closes, Stays, walk_of, says, stay_ref, stay_none_slice, Goes-ref, Goes-none_slice, ends_at}
use Rattle.ff_io.specs.Pieces.Piece.{Got}
use Rattle.ff_io.specs.declared.journal.Journal.{Journal}
use Rattle.ff_io.specs.contracts.journal.Journal.{the_row}
use Rattle.ff_io.specs.contracts.journal.Journal.got as f
use Rattle.ff_io.proofs.journal.Journal.got.Statement.{statement}
use Rattle.ff_io.proofs.journal.Journal.got.Code as code

abbrev stayed : Stays f.ended.signature.params f.ended.kept
stayed = (stay_ref (0 ∷ []) tt (plain (λ _. the_row)), (stay_none_slice (1 ∷ []) tt (plain (λ _. u8)) yes, tt))

pub got_spec : {M : Type 1} → statement M
got_spec 𝓤 𝓛 𝓜 𝓡 wired =
    let c = f.clauses 𝓛 𝓜.mem 𝓡.returns in let W = walk_of 𝓛 f.ended stayed c in
    proved 𝓛 f.ended stayed c 𝓜 𝓡 (Goes-ref 𝓛 2 0 tt (plain (λ _. the_row)), (Goes-none_slice 𝓛 2 (1 ∷ []) tt (plain (λ _. u8)) yes, tt))
    f.Key.name code.function (code.unfolded 𝓤 𝓛.H 𝓜 𝓡 wired)
    (λ κs. (mut_vals, (shr_slice_vals, tt))) (λ κs. (mut_Tells (named 0) κs.0 the_row, (shr_slice_Tells (named 1) κs.1.0 u8, tt))) (λ κs qs bounds a g are.
    let b = a.0.ref_ptr.0 in let o = a.0.ref_ptr.1 in let s = a.1.0 in
    let vs = mut_vals a.0 in let ss = slice_val s.ref_ptr (length s.now) ∷ [] in
    let now : Journal = record { pieces = a.0.now.pieces ++ Got s.now ∷ [] } in
    let y : W.Ghost = ((κs, qs, bounds, a, (vs, (ss, tt))), g) in
    qed 𝓛 (((‵ (flft κs.0 qs.0) ⊛ ‵ (flft κs.1.0 qs.1.0) ⊛ ‵ ftrue)
    ⊛ ‵ ((MutRef (named 0) κs.0 the_row).own_val a.0 vs) ⊛ ‵ ((ShrSlice (named 1) κs.1.0 u8).own_val s ss) ⊛ ‵ ftrue) ∷ ‵ ftrue ∷ []) ∵
    split ! $ split ! $ move ! (1 ∷ []) $ split ! $ move ! (3 ∷ []) $ split ! $ move ! (1 ∷ []) $ split ! $ keep ! (2 ∷ 5 ∷ 0 ∷ 3 ∷ []) $
    -- [the journal; its token; the bytes; theirs]
    enter ! _ _ _ _ _ $ alloc_all ! (λ l. pass_all ! refl ((tt, tt), ((tt, (tt, (record { fits = are.1.0.0.1.0 }, tt))), tt)) $
    fsplit3 ! $ move ! (1 ∷ 2 ∷ 3 ∷ []) $ opens ! tt the_row b o (λ us.
    sets ! (of_opd ! (unit_lit !)) refl (tt, tt) $
    move ! (1 ∷ []) $ use1 𝓛 (‵ (the_row.own_val now us)) (id⊢ 𝓤 _) $ move ! (1 ∷ 0 ∷ []) $ closes ! tt the_row now us b o $
    returns ! (look_at ! 0 refl) $ free_all ! refl $
    -- [two parts of the journal; its token; its first part; the bytes; their token]
    move ! (3 ∷ []) $ suffices ! _ (ends_at 𝓛 f.ended stayed c y vunit tt (now, (tt, tt)) (tt, (tt, tt))) $ says ! refl $ group ! 3 $
    nothing ! $ move ! (4 ∷ 0 ∷ []) $ join ! $ move ! (2 ∷ 0 ∷ []) $ join ! $ frame ! $
    nothing ! $ move ! (2 ∷ 0 ∷ []) $ join ! $ move ! (1 ∷ 0 ∷ []) $ join ! $ frame ! $
    feq_i ! _ (vunit ∷ []) _ refl $ done !)))
