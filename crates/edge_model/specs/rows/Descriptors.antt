-- Worked scripts: descriptors.
use Rattle.std.specs.Prelude.{List, [], ◌∷◌, codes}
use Rattle.edge_base.specs.declared.node.NodeType.TheVariants.{File}
use Rattle.edge_base.specs.declared.refusal.Refusal.TheVariants.{NoEntry, BadDescriptor, Exists, NotDir, IsDir, Invalid, TooManyOpen}
use Rattle.edge_model.specs.Asked as ask
use Rattle.edge_model.specs.Asked.{done, number, bytes, end, entry}
use Rattle.edge_model.specs.Tree.{only_root}
use Rattle.edge_model.specs.rows.Row.{Row, says, told, no, stated, left, small, r, w, wc, rwt, wcx, wx, c, rc, rt, ra, none_at_all}

-- the least free descriptor is given, and sixteen are all
abbrev pub sixteen_descriptors : Row
sixteen_descriptors = record {
  request = small;
  tree = only_root;
  exchanges =
      says (ask.open_file (codes "/f") wc) (told (number 0)) ∷
      says (ask.open_file (codes "/f") r) (told (number 1)) ∷
      says (ask.open_file (codes "/f") r) (told (number 2)) ∷
      says (ask.open_file (codes "/f") r) (told (number 3)) ∷
      says (ask.open_file (codes "/f") r) (told (number 4)) ∷
      says (ask.open_file (codes "/f") r) (told (number 5)) ∷
      says (ask.open_file (codes "/f") r) (told (number 6)) ∷
      says (ask.open_file (codes "/f") r) (told (number 7)) ∷
      says (ask.open_file (codes "/f") r) (told (number 8)) ∷
      says (ask.open_file (codes "/f") r) (told (number 9)) ∷
      says (ask.open_file (codes "/f") r) (told (number 10)) ∷
      says (ask.open_file (codes "/f") r) (told (number 11)) ∷
      says (ask.open_file (codes "/f") r) (told (number 12)) ∷
      says (ask.open_file (codes "/f") r) (told (number 13)) ∷
      says (ask.open_file (codes "/f") r) (told (number 14)) ∷
      says (ask.open_file (codes "/f") r) (told (number 15)) ∷
      says (ask.open_file (codes "/f") r) (no TooManyOpen) ∷
      says (ask.open_file (codes "/g") wc) (no TooManyOpen) ∷
      says (ask.open_dir (codes "/")) (no TooManyOpen) ∷
      says (ask.open_dir (codes "/f")) (no NotDir) ∷
      says (ask.open_file (codes "/") r) (no IsDir) ∷
      says (ask.open_file (codes "/f") wcx) (no Exists) ∷
      says (ask.open_file (codes "/g") r) (no NoEntry) ∷
      says (ask.close 3) (told done) ∷
      says (ask.open_file (codes "/f") r) (told (number 3)) ∷
      says (ask.read 0 1) (no BadDescriptor) ∷
      says (ask.close 77) (no BadDescriptor) ∷
      says (ask.write 1 (0 ∷ [])) (no BadDescriptor) ∷
      [];
  points = 1;
}

-- which flags are refused
abbrev pub flags : Row
flags = record {
  request = small;
  tree = only_root;
  exchanges =
      says (ask.open_file (codes "/f") none_at_all) (no Invalid) ∷
      says (ask.open_file (codes "/f") c) (no Invalid) ∷
      says (ask.open_file (codes "/f") rc) (no Invalid) ∷
      says (ask.open_file (codes "/f") rt) (no Invalid) ∷
      says (ask.open_file (codes "/f") ra) (no Invalid) ∷
      says (ask.open_file (codes "/f") wx) (no Invalid) ∷
      says (ask.open_file (codes "f") wx) (no Invalid) ∷
      says (ask.open_file (codes "f") w) (no Invalid) ∷
      says (ask.open_file (codes "/f") w) (no NoEntry) ∷
      says (ask.open_file (codes "/f") wcx) (told (number 0)) ∷
      says (ask.open_file (codes "/f") wcx) (no Exists) ∷
      says (ask.open_file (codes "/") wcx) (no Exists) ∷
      says (ask.open_file (codes "/") w) (no IsDir) ∷
      says (ask.open_file (codes "/f/g") r) (no NotDir) ∷
      says (ask.open_file (codes "/g/f") r) (no NoEntry) ∷
      [];
  points = 1;
}

-- a file that is opened with truncate loses its bytes, and its blocks
abbrev pub opened_and_emptied : Row
opened_and_emptied = record {
  request = small;
  tree = only_root;
  exchanges =
      says (ask.open_file (codes "/f") wc) (told (number 0)) ∷
      says (ask.fill 0 3000 65) (told (number 3000)) ∷
      says ask.space (told (left 37 37 45 6 8)) ∷
      says (ask.open_file (codes "/f") rwt) (told (number 1)) ∷
      says (ask.fstat 0) (told (stated 3 File 0 1)) ∷
      says ask.space (told (left 44 44 45 6 8)) ∷
      says (ask.read 1 1) (told end) ∷
      [];
  points = 1;
}

-- slots in order, and from the first again
abbrev pub directories_are_read : Row
directories_are_read = record {
  request = small;
  tree = only_root;
  exchanges =
      says (ask.open_dir (codes "/")) (told (number 0)) ∷
      says (ask.read_dir 0) (told end) ∷
      says (ask.make_dir (codes "/a")) (told done) ∷
      says (ask.read_dir 0) (told (entry 3 (codes "a"))) ∷
      says (ask.read_dir 0) (told end) ∷
      says (ask.make_dir (codes "/b")) (told done) ∷
      says (ask.read_dir 0) (told (entry 4 (codes "b"))) ∷
      says (ask.remove_dir (codes "/a")) (told done) ∷
      says (ask.rewind 0) (told done) ∷
      says (ask.read_dir 0) (told (entry 4 (codes "b"))) ∷
      says (ask.read_dir 0) (told end) ∷
      says (ask.read_dir 0) (told end) ∷
      [];
  points = 1;
}

-- all of them
abbrev pub descriptor_rows : List Row
descriptor_rows =
    sixteen_descriptors ∷ flags ∷ opened_and_emptied ∷ directories_are_read ∷ []
