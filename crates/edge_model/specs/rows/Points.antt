-- Worked scripts: points.
use Rattle.std.specs.Prelude.{List, [], ◌∷◌, codes}
use Rattle.edge_base.specs.declared.node.NodeType.TheVariants.{Directory}
use Rattle.edge_base.specs.declared.refusal.Refusal.TheVariants.{BadDescriptor, Invalid}
use Rattle.edge_model.specs.Asked as ask
use Rattle.edge_model.specs.Asked.{done, number, end, entry}
use Rattle.edge_model.specs.Tree.{only_root}
use Rattle.edge_model.specs.rows.Row.{Row, bad, says, told, no, stated, left, small, r, wc, wt}

-- no line: the point at the end alone
abbrev pub empty_script : Row
empty_script = record {
  request = small;
  tree = only_root;
  exchanges =
      [];
  points = 1;
}

-- what a fresh volume tells
abbrev pub fresh_volume : Row
fresh_volume = record {
  request = small;
  tree = only_root;
  exchanges =
      says (ask.stat (codes "/")) (told (stated 2 Directory 0 1)) ∷
      says ask.mask (told (number 1281)) ∷
      says ask.space (told (left 45 45 45 7 8)) ∷
      [];
  points = 1;
}

-- lines that are no command change nothing
abbrev pub bad_lines : Row
bad_lines = record {
  request = small;
  tree = only_root;
  exchanges =
      bad ∷
      bad ∷
      bad ∷
      says (ask.stat (codes "/")) (told (stated 2 Directory 0 1)) ∷
      [];
  points = 1;
}

-- each event takes a point where the mask has it
abbrev pub events : Row
events = record {
  request = small;
  tree = only_root;
  exchanges =
      says (ask.set_mask 2046) (told done) ∷
      says (ask.open_file (codes "/f") wc) (told (number 0)) ∷
      says (ask.fill 0 1 65) (told (number 1)) ∷
      says (ask.fsync 0) (told done) ∷
      says (ask.truncate 0 0) (told done) ∷
      says (ask.close 0) (told done) ∷
      says (ask.link (codes "/f") (codes "/g")) (told done) ∷
      says (ask.rename (codes "/g") (codes "/h")) (told done) ∷
      says (ask.rename (codes "/f") (codes "/h")) (told done) ∷
      says (ask.unlink (codes "/h")) (told done) ∷
      says (ask.make_dir (codes "/d")) (told done) ∷
      says (ask.remove_dir (codes "/d")) (told done) ∷
      [];
  points = 11;
}

-- and none where it has not
abbrev pub no_event : Row
no_event = record {
  request = small;
  tree = only_root;
  exchanges =
      says (ask.set_mask 0) (told done) ∷
      says (ask.open_file (codes "/f") wc) (told (number 0)) ∷
      says (ask.fill 0 1 65) (told (number 1)) ∷
      says (ask.fsync 0) (told done) ∷
      says (ask.truncate 0 0) (told done) ∷
      says (ask.close 0) (told done) ∷
      says (ask.open_file (codes "/f") wt) (told (number 0)) ∷
      says (ask.close 0) (told done) ∷
      says (ask.make_dir (codes "/d")) (told done) ∷
      says (ask.remove_dir (codes "/d")) (told done) ∷
      says ask.transact (told done) ∷
      [];
  points = 1;
}

-- a mask is at most 2047
abbrev pub masks : Row
masks = record {
  request = small;
  tree = only_root;
  exchanges =
      says (ask.set_mask 2048) (no Invalid) ∷
      says (ask.set_mask 2047) (told done) ∷
      says ask.mask (told (number 2047)) ∷
      says (ask.open_file (codes "/f") wc) (told (number 0)) ∷
      says (ask.open_file (codes "/f") wt) (told (number 1)) ∷
      says (ask.open_file (codes "/f") r) (told (number 2)) ∷
      says (ask.open_dir (codes "/")) (told (number 3)) ∷
      says (ask.read_dir 3) (told (entry 3 (codes "f"))) ∷
      says (ask.fsync 9) (no BadDescriptor) ∷
      [];
  points = 3;
}

-- all of them
abbrev pub point_rows : List Row
point_rows =
    empty_script ∷ fresh_volume ∷ bad_lines ∷ events ∷ no_event ∷ masks ∷ []
