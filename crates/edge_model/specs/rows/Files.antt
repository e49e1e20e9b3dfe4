-- Worked scripts: files.
use Rattle.std.specs.Prelude.{List, [], ◌∷◌, codes}
use Rattle.edge_base.specs.declared.node.NodeType.TheVariants.{File, Directory}
use Rattle.edge_base.specs.declared.refusal.Refusal.TheVariants.{NoEntry, BadDescriptor, IsDir, Invalid, TooBig}
use Rattle.edge_model.specs.Asked as ask
use Rattle.edge_model.specs.Asked.{done, number, bytes, end}
use Rattle.edge_model.specs.Tree.{only_root}
use Rattle.edge_model.specs.rows.Row.{Row, says, told, no, stated, left, small, direct_alone, r, wc, rwc, wca}

-- absent blocks read as zeros and take no room
abbrev pub sparse_file : Row
sparse_file = record {
  request = small;
  tree = only_root;
  exchanges =
      says (ask.open_file (codes "/s") rwc) (told (number 0)) ∷
      says (ask.seek 0 100000) (told done) ∷
      says (ask.write 0 (255 ∷ [])) (told (number 1)) ∷
      says (ask.seek 0 99998) (told done) ∷
      says (ask.read 0 3) (told (bytes (0 ∷ 0 ∷ 255 ∷ []))) ∷
      says (ask.seek 0 1000) (told done) ∷
      says (ask.read 0 2) (told (bytes (0 ∷ 0 ∷ []))) ∷
      says ask.space (told (left 42 42 45 6 8)) ∷
      says (ask.stat (codes "/s")) (told (stated 3 File 100001 1)) ∷
      [];
  points = 1;
}

-- bytes past an end that was cut are zero
abbrev pub cut_and_grown : Row
cut_and_grown = record {
  request = small;
  tree = only_root;
  exchanges =
      says (ask.open_file (codes "/t") rwc) (told (number 0)) ∷
      says (ask.fill 0 600 65) (told (number 600)) ∷
      says (ask.truncate 0 513) (told done) ∷
      says (ask.truncate 0 1024) (told done) ∷
      says (ask.seek 0 510) (told done) ∷
      says (ask.read 0 6) (told (bytes (65 ∷ 65 ∷ 65 ∷ 0 ∷ 0 ∷ 0 ∷ []))) ∷
      says (ask.seek 0 1024) (told done) ∷
      says (ask.read 0 1) (told end) ∷
      [];
  points = 1;
}

-- a cut at a block writes nothing and removes what is behind
abbrev pub cut_at_a_block : Row
cut_at_a_block = record {
  request = small;
  tree = only_root;
  exchanges =
      says (ask.open_file (codes "/t") wc) (told (number 0)) ∷
      says (ask.fill 0 1024 65) (told (number 1024)) ∷
      says ask.transact (told done) ∷
      says ask.space (told (left 42 42 45 6 8)) ∷
      says (ask.truncate 0 512) (told done) ∷
      says ask.space (told (left 42 43 45 6 8)) ∷
      says (ask.truncate 0 100) (told done) ∷
      says ask.space (told (left 41 43 45 6 8)) ∷
      says (ask.fstat 0) (told (stated 3 File 100 1)) ∷
      [];
  points = 2;
}

-- with append each write goes to the end
abbrev pub append : Row
append = record {
  request = small;
  tree = only_root;
  exchanges =
      says (ask.open_file (codes "/a") wca) (told (number 0)) ∷
      says (ask.write 0 (1 ∷ 2 ∷ [])) (told (number 2)) ∷
      says (ask.seek 0 0) (told done) ∷
      says (ask.write 0 (3 ∷ [])) (told (number 1)) ∷
      says (ask.open_file (codes "/a") r) (told (number 1)) ∷
      says (ask.read 1 9) (told (bytes (1 ∷ 2 ∷ 3 ∷ []))) ∷
      says (ask.read 1 9) (told end) ∷
      [];
  points = 1;
}

-- reads and writes move the position
abbrev pub positions : Row
positions = record {
  request = small;
  tree = only_root;
  exchanges =
      says (ask.open_file (codes "/p") rwc) (told (number 0)) ∷
      says (ask.write 0 (1 ∷ 2 ∷ 3 ∷ 4 ∷ [])) (told (number 4)) ∷
      says (ask.seek 0 1) (told done) ∷
      says (ask.read 0 2) (told (bytes (2 ∷ 3 ∷ []))) ∷
      says (ask.write 0 (9 ∷ 9 ∷ [])) (told (number 2)) ∷
      says (ask.seek 0 0) (told done) ∷
      says (ask.read 0 4096) (told (bytes (1 ∷ 2 ∷ 3 ∷ 9 ∷ 9 ∷ []))) ∷
      says (ask.seek 0 7) (told done) ∷
      says (ask.read 0 1) (told end) ∷
      says (ask.fstat 0) (told (stated 3 File 5 1)) ∷
      [];
  points = 1;
}

-- a file of 120 blocks is the greatest where an inode has 120 direct entries
abbrev pub greatest_file : Row
greatest_file = record {
  request = direct_alone;
  tree = only_root;
  exchanges =
      says (ask.open_file (codes "/b") wc) (told (number 0)) ∷
      says (ask.seek 0 61439) (told done) ∷
      says (ask.write 0 (1 ∷ [])) (told (number 1)) ∷
      says (ask.write 0 (1 ∷ [])) (no TooBig) ∷
      says (ask.fill 0 1 65) (no TooBig) ∷
      says (ask.seek 0 61441) (no Invalid) ∷
      says (ask.seek 0 61440) (told done) ∷
      says (ask.truncate 0 61441) (no TooBig) ∷
      says (ask.fstat 0) (told (stated 3 File 61440 1)) ∷
      says ask.space (told (left 43 43 45 6 8)) ∷
      [];
  points = 1;
}

-- the greatest file of the default geometry has 652,685,312 bytes
abbrev pub greatest_size : Row
greatest_size = record {
  request = small;
  tree = only_root;
  exchanges =
      says (ask.open_file (codes "/b") wc) (told (number 0)) ∷
      says (ask.seek 0 652685312) (told done) ∷
      says (ask.write 0 (1 ∷ [])) (no TooBig) ∷
      says (ask.fill 0 1 65) (no TooBig) ∷
      says (ask.seek 0 652685313) (no Invalid) ∷
      says (ask.truncate 0 652685313) (no TooBig) ∷
      says (ask.fstat 0) (told (stated 3 File 0 1)) ∷
      [];
  points = 1;
}

-- what a descriptor refuses
abbrev pub file_refusals : Row
file_refusals = record {
  request = small;
  tree = only_root;
  exchanges =
      says (ask.make_dir (codes "/d")) (told done) ∷
      says (ask.open_dir (codes "/d")) (told (number 0)) ∷
      says (ask.open_file (codes "/f") r) (no NoEntry) ∷
      says (ask.open_file (codes "/f") wc) (told (number 1)) ∷
      says (ask.open_file (codes "/f") r) (told (number 2)) ∷
      says (ask.read 3 1) (no BadDescriptor) ∷
      says (ask.read 0 1) (no IsDir) ∷
      says (ask.read 1 1) (no BadDescriptor) ∷
      says (ask.write 3 (1 ∷ [])) (no BadDescriptor) ∷
      says (ask.write 0 (1 ∷ [])) (no IsDir) ∷
      says (ask.write 2 (1 ∷ [])) (no BadDescriptor) ∷
      says (ask.fill 3 1 65) (no BadDescriptor) ∷
      says (ask.fill 0 1 65) (no IsDir) ∷
      says (ask.fill 2 1 65) (no BadDescriptor) ∷
      says (ask.seek 3 0) (no BadDescriptor) ∷
      says (ask.seek 0 0) (no IsDir) ∷
      says (ask.truncate 3 0) (no BadDescriptor) ∷
      says (ask.truncate 0 0) (no IsDir) ∷
      says (ask.truncate 2 0) (no BadDescriptor) ∷
      says (ask.fsync 3) (no BadDescriptor) ∷
      says (ask.fsync 0) (told done) ∷
      says (ask.fstat 3) (no BadDescriptor) ∷
      says (ask.fstat 0) (told (stated 3 Directory 0 1)) ∷
      says (ask.close 3) (no BadDescriptor) ∷
      [];
  points = 2;
}

-- all of them
abbrev pub file_rows : List Row
file_rows =
    sparse_file ∷ cut_and_grown ∷ cut_at_a_block ∷ append ∷ positions ∷ greatest_file ∷ greatest_size ∷ file_refusals ∷ []
