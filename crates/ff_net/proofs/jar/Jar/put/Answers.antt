use Rattle.std.proofs.Common.{◌≡◌, arith, sym, ap, subst, ◌∙◌, ◌++◌, ◌∷◌, [], set, true, false}
use Rattle.std.specs.FinMap as finmap
use Rattle.std.proofs.lemmas.Option.{slice_get-get_or}
use Rattle.ff_machine.specs.Net as net
use Rattle.ff_net.proofs.Cookies.{cookie_total, cookie_exact, cookie_place, no_fault, no_room, room_left, cookies_put}
use Rattle.ff_net.proofs.Keyed.{value_there, no_value, apart_over, put_over, apart_more, put_more}
use Rattle.ff_net.proofs.jar.Jar.put.Goals as goal

pub invariant_of-self-in_ok-set : goal.invariant_of-self-in_ok-set
invariant_of-self-in_ok-set g c =
    let place = cookie_place c.args.domain.now c.args.key.now c.self.inside.cookies c.place_of-place.result (rw c.as_bytes.ensures.value at c.place_of-place.ensures) in
    let there = value_there cookie_total cookie_exact _ _ _ place _ (slice_get-get_or c.self.inside.cookies c.place_of-place.result (([], []), []) (omega arith)) in
    let size : net.has_cookie_size c.args.key.now c.args.value.now ≡ true = cc in
    rw (c.in_ok-set.ensures.done, c.in_ok-of.ensures)
    (cookies_put c.self.inside.cookies _ c.args.domain.now c.args.key.now c.args.value.now c.self.invariant
    (apart_over cookie_total cookie_exact _ _ _ place c.self.invariant.apart (([], []), []) (omega arith) c.args.value.now)
    (put_over cookie_total cookie_exact _ _ _ place c.self.invariant.apart (([], []), []) (omega arith) c.args.value.now)
    (no_fault (finmap.from_entries c.self.inside.cookies) c.args.domain.now c.args.key.now c.args.value.now _ size there)
    (rw c.as_bytes-known.ensures.value at c.as_bytes-known.ensures.domain) (rw c.as_bytes-known-2.ensures.value at c.as_bytes-known-2.ensures.utf8) (rw c.as_bytes-known-3.ensures.value at c.as_bytes-known-3.ensures.utf8))

pub returns-in_ok-set-clause-done : goal.returns-in_ok-set-clause-done
returns-in_ok-set-clause-done g c =
    let place = cookie_place c.args.domain.now c.args.key.now c.self.inside.cookies c.place_of-place.result (rw c.as_bytes.ensures.value at c.place_of-place.ensures) in
    ap finmap.from_entries (c.in_ok-set.ensures.done ∙ ap (set c.self.inside.cookies c.place_of-place.result) c.in_ok-of.ensures)
    ∙ put_over cookie_total cookie_exact _ _ _ place c.self.invariant.apart (([], []), []) (omega arith) c.args.value.now
    ∙ ap (λ jar. net.cookie_put jar c.args.domain.now c.args.key.now c.args.value.now) c.self.view_is

pub returns-in_ok-set-clause-answer : goal.returns-in_ok-set-clause-answer
returns-in_ok-set-clause-answer g c =
    let place = cookie_place c.args.domain.now c.args.key.now c.self.inside.cookies c.place_of-place.result (rw c.as_bytes.ensures.value at c.place_of-place.ensures) in
    let there = value_there cookie_total cookie_exact _ _ _ place _ (slice_get-get_or c.self.inside.cookies c.place_of-place.result (([], []), []) (omega arith)) in
    let size : net.has_cookie_size c.args.key.now c.args.value.now ≡ true = cc in
    no_fault c.args.self.now c.args.domain.now c.args.key.now c.args.value.now _ size (ap (λ jar. net.cookie jar c.args.domain.now c.args.key.now) (sym c.self.view_is) ∙ there)

pub returns-then-not-has_room-clause-answer : goal.returns-then-not-has_room-clause-answer
returns-then-not-has_room-clause-answer g c =
    let place = cookie_place c.args.domain.now c.args.key.now c.self.inside.cookies c.place_of-place.result (rw c.as_bytes.ensures.value at c.place_of-place.ensures) in
    let none = no_value cookie_total cookie_exact _ _ _ place (omega arith) in
    let size : net.has_cookie_size c.args.key.now c.args.value.now ≡ true = cc in
    let full : net.has_cookie_room (finmap.from_entries c.self.inside.cookies) c.args.domain.now ≡ false = cc in
    subst (λ jar. net.cookie_fault jar c.args.domain.now c.args.key.now c.args.value.now ≡ _) c.self.view_is (no_room _ c.args.domain.now c.args.key.now c.args.value.now size none full)

pub invariant_of-self-in_ok-push : goal.invariant_of-self-in_ok-push
invariant_of-self-in_ok-push g c =
    let place = cookie_place c.args.domain.now c.args.key.now c.self.inside.cookies c.place_of-place.result (rw c.as_bytes.ensures.value at c.place_of-place.ensures) in
    let none = no_value cookie_total cookie_exact _ _ _ place (omega arith) in
    let size : net.has_cookie_size c.args.key.now c.args.value.now ≡ true = cc in
    let room : net.has_cookie_room (finmap.from_entries c.self.inside.cookies) c.args.domain.now ≡ true = cc in
    rw (c.in_ok-push.ensures.done, c.in_ok-of-2.ensures)
    (cookies_put c.self.inside.cookies _ c.args.domain.now c.args.key.now c.args.value.now c.self.invariant
    (apart_more cookie_total cookie_exact _ _ _ place c.self.invariant.apart (omega arith) c.args.value.now)
    (put_more cookie_total cookie_exact _ _ _ place c.self.invariant.apart (omega arith) c.args.value.now)
    (room_left (finmap.from_entries c.self.inside.cookies) c.args.domain.now c.args.key.now c.args.value.now size none room)
    (rw c.as_bytes-known.ensures.value at c.as_bytes-known.ensures.domain) (rw c.as_bytes-known-2.ensures.value at c.as_bytes-known-2.ensures.utf8) (rw c.as_bytes-known-3.ensures.value at c.as_bytes-known-3.ensures.utf8))

pub returns-in_ok-push-clause-done : goal.returns-in_ok-push-clause-done
returns-in_ok-push-clause-done g c =
    let place = cookie_place c.args.domain.now c.args.key.now c.self.inside.cookies c.place_of-place.result (rw c.as_bytes.ensures.value at c.place_of-place.ensures) in
    ap finmap.from_entries (c.in_ok-push.ensures.done ∙ ap (λ row. c.self.inside.cookies ++ row ∷ []) c.in_ok-of-2.ensures)
    ∙ put_more cookie_total cookie_exact _ _ _ place c.self.invariant.apart (omega arith) c.args.value.now
    ∙ ap (λ jar. net.cookie_put jar c.args.domain.now c.args.key.now c.args.value.now) c.self.view_is
