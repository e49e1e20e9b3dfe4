-- Worked scripts: space.
use Rattle.std.specs.Prelude.{List, [], ◌∷◌, codes}
use Rattle.edge_base.specs.declared.node.NodeType.TheVariants.{File}
use Rattle.edge_base.specs.declared.refusal.Refusal.TheVariants.{Exists, NoSpace}
use Rattle.edge_model.specs.Asked as ask
use Rattle.edge_model.specs.Asked.{done, number}
use Rattle.edge_model.specs.Tree.{only_root}
use Rattle.edge_model.specs.rows.Row.{Row, says, told, no, stated, left, small, blocks_22, blocks_23, blocks_24, blocks_3843, blocks_3844, blocks_100000, w, wc}

-- growing commands leave three blocks
abbrev pub full_volume : Row
full_volume = record {
  request = small;
  tree = only_root;
  exchanges =
      says (ask.open_file (codes "/f") wc) (told (number 0)) ∷
      says (ask.fill 0 20480 65) (told (number 20480)) ∷
      says ask.space (told (left 3 3 45 6 8)) ∷
      [];
  points = 1;
}

-- a change that does not fit is not made
abbrev pub one_byte_too_many : Row
one_byte_too_many = record {
  request = small;
  tree = only_root;
  exchanges =
      says (ask.open_file (codes "/f") wc) (told (number 0)) ∷
      says (ask.fill 0 20481 65) (no NoSpace) ∷
      says (ask.stat (codes "/f")) (told (stated 3 File 0 1)) ∷
      [];
  points = 1;
}

-- dropping needs no room that is kept
abbrev pub unlink_on_a_full_volume : Row
unlink_on_a_full_volume = record {
  request = small;
  tree = only_root;
  exchanges =
      says (ask.open_file (codes "/f") wc) (told (number 0)) ∷
      says (ask.fill 0 20480 65) (told (number 20480)) ∷
      says (ask.close 0) (told done) ∷
      says ask.transact (told done) ∷
      says (ask.open_file (codes "/f") w) (told (number 0)) ∷
      says (ask.write 0 (66 ∷ [])) (no NoSpace) ∷
      says (ask.close 0) (told done) ∷
      says (ask.unlink (codes "/f")) (told done) ∷
      says ask.space (told (left 3 45 45 7 8)) ∷
      [];
  points = 2;
}

-- with full in the mask a point is taken where it frees blocks
abbrev pub point_on_a_full_volume : Row
point_on_a_full_volume = record {
  request = small;
  tree = only_root;
  exchanges =
      says (ask.set_mask 0) (told done) ∷
      says (ask.make_dir (codes "/a")) (told done) ∷
      says (ask.make_dir (codes "/b")) (told done) ∷
      says (ask.make_dir (codes "/c")) (told done) ∷
      says (ask.make_dir (codes "/d")) (told done) ∷
      says (ask.open_file (codes "/f") wc) (told (number 0)) ∷
      says (ask.fill 0 18432 65) (told (number 18432)) ∷
      says (ask.close 0) (told done) ∷
      says (ask.link (codes "/f") (codes "/a/1")) (told done) ∷
      says (ask.link (codes "/f") (codes "/a/2")) (told done) ∷
      says (ask.link (codes "/f") (codes "/b/1")) (told done) ∷
      says (ask.link (codes "/f") (codes "/b/2")) (told done) ∷
      says (ask.link (codes "/f") (codes "/c/1")) (told done) ∷
      says (ask.link (codes "/f") (codes "/c/2")) (told done) ∷
      says (ask.link (codes "/f") (codes "/d/1")) (told done) ∷
      says (ask.link (codes "/f") (codes "/d/2")) (told done) ∷
      says ask.transact (told done) ∷
      says ask.space (told (left 3 3 45 2 8)) ∷
      says (ask.unlink (codes "/a/1")) (told done) ∷
      says (ask.unlink (codes "/b/1")) (told done) ∷
      says (ask.unlink (codes "/c/1")) (told done) ∷
      says ask.space (told (left 0 3 45 2 8)) ∷
      says (ask.unlink (codes "/d/1")) (no NoSpace) ∷
      says (ask.set_mask 1024) (told done) ∷
      says (ask.unlink (codes "/d/1")) (told done) ∷
      [];
  points = 2;
}

-- where three blocks are allocable nothing can be made
abbrev pub three_blocks : Row
three_blocks = record {
  request = blocks_22;
  tree = only_root;
  exchanges =
      says (ask.make_dir (codes "/a")) (no NoSpace) ∷
      says (ask.open_file (codes "/a") wc) (no NoSpace) ∷
      says ask.space (told (left 3 3 3 7 8)) ∷
      [];
  points = 1;
}

-- the room of larger volumes
abbrev pub volume_of_3843 : Row
volume_of_3843 = record {
  request = blocks_3843;
  tree = only_root;
  exchanges =
      says ask.space (told (left 3824 3824 3824 7 8)) ∷
      [];
  points = 1;
}

-- a pair of imap nodes takes two blocks
abbrev pub volume_of_3844 : Row
volume_of_3844 = record {
  request = blocks_3844;
  tree = only_root;
  exchanges =
      says ask.space (told (left 3823 3823 3823 7 8)) ∷
      [];
  points = 1;
}

-- and 26 pairs take 52
abbrev pub volume_of_100000 : Row
volume_of_100000 = record {
  request = blocks_100000;
  tree = only_root;
  exchanges =
      says ask.space (told (left 99929 99929 99929 7 8)) ∷
      [];
  points = 1;
}

-- no growing command fits, and a refusal of another kind comes first
abbrev pub four_blocks : Row
four_blocks = record {
  request = blocks_23;
  tree = only_root;
  exchanges =
      says (ask.open_file (codes "/f") wc) (told (number 0)) ∷
      says ask.transact (told done) ∷
      says (ask.fill 0 1 65) (no NoSpace) ∷
      says (ask.link (codes "/f") (codes "/g")) (no NoSpace) ∷
      says (ask.rename (codes "/f") (codes "/g")) (no NoSpace) ∷
      says (ask.make_dir (codes "/d")) (no NoSpace) ∷
      says (ask.open_file (codes "/g") wc) (no NoSpace) ∷
      says (ask.link (codes "/f") (codes "/f")) (no Exists) ∷
      says (ask.truncate 0 5) (told done) ∷
      says ask.space (told (left 3 3 4 6 8)) ∷
      [];
  points = 2;
}

-- a file that grows without a block is judged as one that needs room
abbrev pub growth_without_a_block : Row
growth_without_a_block = record {
  request = blocks_23;
  tree = only_root;
  exchanges =
      says (ask.set_mask 0) (told done) ∷
      says (ask.open_file (codes "/f") wc) (told (number 0)) ∷
      says (ask.link (codes "/f") (codes "/g")) (told done) ∷
      says ask.transact (told done) ∷
      says (ask.unlink (codes "/g")) (told done) ∷
      says ask.space (told (left 2 3 4 6 8)) ∷
      says (ask.truncate 0 5) (no NoSpace) ∷
      says (ask.truncate 0 0) (told done) ∷
      says (ask.set_mask 1024) (told done) ∷
      says (ask.truncate 0 5) (told done) ∷
      says ask.space (told (left 3 3 4 6 8)) ∷
      [];
  points = 2;
}

-- what was written since the last point is written again without room
abbrev pub dirty_blocks_are_free : Row
dirty_blocks_are_free = record {
  request = blocks_24;
  tree = only_root;
  exchanges =
      says (ask.set_mask 0) (told done) ∷
      says (ask.open_file (codes "/f") wc) (told (number 0)) ∷
      says (ask.fill 0 512 65) (told (number 512)) ∷
      says ask.space (told (left 3 3 5 6 8)) ∷
      says (ask.seek 0 0) (told done) ∷
      says (ask.fill 0 512 66) (told (number 512)) ∷
      says ask.space (told (left 3 3 5 6 8)) ∷
      says (ask.fill 0 1 65) (no NoSpace) ∷
      says ask.transact (told done) ∷
      says (ask.seek 0 0) (told done) ∷
      says (ask.fill 0 512 65) (no NoSpace) ∷
      [];
  points = 1;
}

-- rmdir is refused where its own blocks find no room
abbrev pub rmdir_without_room : Row
rmdir_without_room = record {
  request = small;
  tree = only_root;
  exchanges =
      says (ask.set_mask 0) (told done) ∷
      says (ask.make_dir (codes "/a")) (told done) ∷
      says (ask.make_dir (codes "/b")) (told done) ∷
      says (ask.make_dir (codes "/c")) (told done) ∷
      says (ask.make_dir (codes "/d")) (told done) ∷
      says (ask.make_dir (codes "/d/e")) (told done) ∷
      says (ask.open_file (codes "/f") wc) (told (number 0)) ∷
      says (ask.fill 0 18432 65) (told (number 18432)) ∷
      says (ask.close 0) (told done) ∷
      says (ask.link (codes "/f") (codes "/a/1")) (told done) ∷
      says (ask.link (codes "/f") (codes "/a/2")) (told done) ∷
      says (ask.link (codes "/f") (codes "/b/1")) (told done) ∷
      says (ask.link (codes "/f") (codes "/b/2")) (told done) ∷
      says (ask.link (codes "/f") (codes "/c/1")) (told done) ∷
      says (ask.link (codes "/f") (codes "/c/2")) (told done) ∷
      says (ask.link (codes "/f") (codes "/d/1")) (told done) ∷
      says ask.transact (told done) ∷
      says ask.space (told (left 3 3 45 1 8)) ∷
      says (ask.unlink (codes "/a/1")) (told done) ∷
      says (ask.unlink (codes "/b/1")) (told done) ∷
      says (ask.unlink (codes "/c/1")) (told done) ∷
      says ask.space (told (left 0 3 45 1 8)) ∷
      says (ask.remove_dir (codes "/d/e")) (no NoSpace) ∷
      says (ask.set_mask 1025) (told done) ∷
      says (ask.remove_dir (codes "/d/e")) (told done) ∷
      [];
  points = 3;
}

-- all of them
abbrev pub space_rows : List Row
space_rows =
    full_volume ∷ one_byte_too_many ∷ unlink_on_a_full_volume ∷ point_on_a_full_volume ∷ three_blocks ∷ volume_of_3843 ∷ volume_of_3844 ∷
    volume_of_100000 ∷ four_blocks ∷ growth_without_a_block ∷ dirty_blocks_are_free ∷ rmdir_without_room ∷ []
