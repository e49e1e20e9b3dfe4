-- The fresh image of 64 blocks is a formatted one, so it opens to the tree with the root alone.
use Rattle.std.proofs.Common.{refl, arith}
use Rattle.edge_base.specs.layout.Word.{check_word_of, eight_steps}
use Rattle.edge_base.specs.layout.Places.{bad_geometry}
use Rattle.edge_base.specs.layout.Bytes.{number_at, signature_in, is_zero, bit_in, clear_from}
use Rattle.edge_base.specs.layout.Spelling.{request_in, master_in, metaroot_fields, metaroot_in, head_fields, inode_in}
use Rattle.edge_image.specs.Fresh.{fresh_geometry, fresh_metaroot, fresh_image}
use Rattle.edge_image.specs.Formatted.{IsFormatted, OpensFresh}
use Rattle.edge_image.proofs.FormattedLaws.{first_bit, opens_fresh}

pub fresh_is_formatted : IsFormatted fresh_geometry 0 fresh_image
unfolding master_in request_in metaroot_in metaroot_fields inode_in head_fields number_at signature_in is_zero check_word_of eight_steps bad_geometry clear_from bit_in
fresh_is_formatted = record {
  block_size = refl;
  blocks = omega arith;
  master = refl;
  metaroot = record { spells = refl; bits = λ k. first_bit 32 fresh_metaroot 479 k refl };
  imap = λ i below. absurd (omega arith);
  second = refl;
  root = record { spells = refl; sequence = refl; entries = refl };
}

pub fresh_opens : OpensFresh fresh_geometry 0 fresh_image
fresh_opens = opens_fresh fresh_geometry 0 fresh_image fresh_is_formatted
