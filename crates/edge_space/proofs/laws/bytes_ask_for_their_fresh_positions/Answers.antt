use Rattle.std.proofs.Common.{◌+◌, ◌-◌, ◌/◌, ◌≤◌, refl, arith}
use Rattle.edge_moves.proofs.SlotLaws.{some_pointers_fit}
use Rattle.edge_file.proofs.StepLaws.{some_bytes}
use Rattle.edge_count.proofs.RunLaws.{div_mono}
use Rattle.edge_space.proofs.BytesLaws.{bytes_run, room_bytes}
use Rattle.edge_space.proofs.laws.bytes_ask_for_their_fresh_positions.Goals as goal

pub returns-clause-room : goal.returns-clause-room
returns-clause-room c g past v n at len indices left = room_bytes g past v n at len

pub returns-clause-run : goal.returns-clause-run
returns-clause-run c g v n at len left p geometry within =
    let size = some_bytes g (some_pointers_fit g geometry) in
    let first = at / g.block_size in
    let last = (at + len - 1) / g.block_size in
    let low : first ≤ last = div_mono g.block_size at (at + len - 1) size (omega (arith, within.0)) in
    bytes_run g n at len first (last + 1 - first) size within.0 within.1 refl (omega arith) p
