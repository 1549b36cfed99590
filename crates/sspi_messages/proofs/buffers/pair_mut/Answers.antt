use Rattle.std.proofs.Common.{◌≡◌, ◌<◌, None, position, refl, arith}
use Rattle.sspi_messages.specs.Buffers.{is_unflagged}
use Rattle.sspi_messages.proofs.Pairs.{differ, lent, lent_back, pair_found, read_front, read_back, first_lacks, second_lacks}
use Rattle.sspi_messages.proofs.buffers.pair_mut.Goals as goal

pub returns-in_default : goal.returns-in_default
returns-in_default c =
    let at : None ≡ position (is_unflagged c.args.first_type) c.args.message.now = c.in_default.ensures in
    (refl, record { writes_back = tt; pair = first_lacks c.args.first_type c.args.second_type c.args.message.now at })

pub returns-in_default-place : goal.returns-in_default-place
returns-in_default-place c =
    let at : None ≡ position (is_unflagged c.args.second_type) c.args.message.now = c.in_default-place.ensures in
    (refl, record { writes_back = tt; pair = second_lacks c.args.first_type c.args.second_type c.args.message.now at })

pub returns-then-first-second : goal.returns-then-first-second
returns-then-first-second c =
    let f = c.args.first_type in
    let s = c.args.second_type in
    let xs = c.args.message.now in
    let i = c.in-Some.first in
    let j = c.in-Some-place.second in
    let cut = c.split_at_mut-front.ensures in
    let front = c.split_at_mut-front.result.0.now in
    let back = c.split_at_mut-front.result.1.now in
    let lt : i < j = c.if-first-second.true in (
      ((refl, refl), λ x y. lent f s c.requires xs i j c.in-Some.ensures c.in-Some-place.ensures front back x y cut.front cut.back lt),
      record {
        writes_back = tt;
        pair = pair_found f s c.requires xs i j c.in-Some.ensures c.in-Some-place.ensures c.index-front-first.result c.index-back-0.result
            (read_front xs front i j c.index-front-first.result cut.front lt c.index-front-first.is)
            (read_back xs back j c.index-back-0.result cut.back c.index-back-0.is);
      },
    )

pub bounds-front-second : goal.bounds-front-second
bounds-front-second c =
    let apart = differ c.args.first_type c.args.second_type c.requires c.args.message.now c.in-Some.first c.in-Some-place.second
    c.in-Some.ensures c.in-Some-place.ensures in
    let le = c.if-first-second.false in
    let long = c.split_at_mut-front-2.ensures.front_len in
    omega arith

pub returns : goal.returns
returns c =
    let f = c.args.first_type in
    let s = c.args.second_type in
    let xs = c.args.message.now in
    let i = c.in-Some.first in
    let j = c.in-Some-place.second in
    let cut = c.split_at_mut-front-2.ensures in
    let front = c.split_at_mut-front-2.result.0.now in
    let back = c.split_at_mut-front-2.result.1.now in
    let apart = differ f s c.requires xs i j c.in-Some.ensures c.in-Some-place.ensures in
    let le = c.if-first-second.false in
    let lt : j < i = omega arith in (
      ((refl, refl), λ x y. lent_back f s c.requires xs i j c.in-Some.ensures c.in-Some-place.ensures front back x y cut.front cut.back lt),
      record {
        writes_back = tt;
        pair = pair_found f s c.requires xs i j c.in-Some.ensures c.in-Some-place.ensures c.index-back-0-2.result
            c.index-front-second.result
            (read_back xs back i c.index-back-0-2.result cut.back c.index-back-0-2.is)
            (read_front xs front j i c.index-front-second.result cut.front lt c.index-front-second.is);
      },
    )
