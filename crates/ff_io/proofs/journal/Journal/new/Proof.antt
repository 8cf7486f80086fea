-- A journal has no bytes when the program runs: what is made is an empty struct, with no piece.
use Rattle.ff_io.proofs.Walking.{[], ◌∷◌, refl, proved, vstruct, vnil, raw, ◌$◌, ◌∵◌, !, qed, done, drop, suffices, join, enter, no_more, returns, agg, alloc_all, pass_all, free_all, look_at, sets, pure_i, nothing, on_entry, walk_of, says, ends_at}
use Rattle.ff_io.specs.declared.journal.Journal.{Journal}
use Rattle.ff_io.specs.contracts.journal.Journal.{the_row}
use Rattle.ff_io.specs.contracts.journal.Journal.new as f
use Rattle.ff_io.proofs.journal.Journal.new.Statement.{statement}
use Rattle.ff_io.proofs.journal.Journal.new.Code as code

abbrev empty : Journal
empty = record { pieces = [] }

pub new_spec : {M : Type 1} → statement M
new_spec 𝓤 𝓛 𝓜 𝓡 wired =
    let c = f.clauses 𝓛 𝓜.mem 𝓡.returns in let W = walk_of 𝓛 f.ended tt c in
    proved 𝓛 f.ended tt c 𝓜 𝓡 tt f.Key.name code.function (code.unfolded 𝓤 𝓛.H 𝓜 𝓡 wired) (λ κs. tt) (λ κs. tt) (λ κs qs bounds a g are.
    let y : W.Ghost = ((κs, qs, bounds, a, tt), g) in
    qed 𝓛 (raw (on_entry 𝓛 f.signature κs qs a tt) ∷ raw ((c κs a).requires g) ∷ []) ∵ drop ! $ drop ! $
    enter ! _ _ _ _ _ $ alloc_all ! (λ l. pass_all ! refl tt $
    sets ! (agg ! (no_more !)) refl (tt, tt) $ returns ! (look_at ! 0 refl) $ free_all ! refl $
    pure_i ! (the_row.own_val empty (vstruct vnil ∷ [])) ((λ vss. (tt, tt)), tt) ((tt, (refl, tt)), tt) $
    suffices ! _ (ends_at 𝓛 f.ended tt c y (vstruct vnil) empty tt tt) $ says ! refl $
    nothing ! $ join ! $ nothing ! $ done !))
