use Rattle.std.proofs.Common.{◌∙◌, ◌-◌, length, take, drop, ap}
use Rattle.std.proofs.lemmas.List.{take_rest}
use Rattle.byteorder.specs.Endian.{little_bytes}
use Rattle.edge_cache.proofs.SealLaws.{sealed-is}
use Rattle.edge_cache.proofs.buffer.seal.Goals as goal

pub returns : goal.returns
returns c = c.put.ensures.bytes ∙ sealed-is c.args.block.now c.write_u32.new.buf (take (length c.args.block.now - 8) (drop 8 c.args.block.now)) (c.write_u32.ensures ∙ ap (little_bytes 4) c.check_word.ensures) (take_rest c.args.block.now 8)
