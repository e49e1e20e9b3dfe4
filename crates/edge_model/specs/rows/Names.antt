-- Worked scripts: names.
use Rattle.std.specs.Prelude.{List, [], ◌∷◌, codes, ℕ, ◌-◌, ◌++◌, replicate}
use Rattle.std.specs.List.{flat_map, range_with_len}
use Rattle.edge_base.specs.declared.node.NodeType.TheVariants.{File, Directory}
use Rattle.edge_base.specs.declared.refusal.Refusal.TheVariants.{NoEntry, BadDescriptor, Busy, Exists, NotDir, IsDir, Invalid, NoInodes, TooBig, TooManyLinks, NameTooLong, NotEmpty}
use Rattle.edge_model.specs.Asked as ask
use Rattle.edge_model.specs.Asked.{done, number, bytes, end, entry}
use Rattle.edge_model.specs.Tree.{only_root}
use Rattle.edge_model.specs.rows.Row.{Row, says, told, no, stated, left, small, names_of_252, long_names, crowded, many_names, wc}

-- numbers are given out from the least on
abbrev pub inodes_run_out : Row
inodes_run_out = record {
  request = small;
  tree = only_root;
  exchanges =
      says (ask.make_dir (codes "/1")) (told done) ∷
      says (ask.make_dir (codes "/2")) (told done) ∷
      says (ask.make_dir (codes "/3")) (told done) ∷
      says (ask.make_dir (codes "/4")) (told done) ∷
      says (ask.make_dir (codes "/5")) (told done) ∷
      says (ask.make_dir (codes "/6")) (told done) ∷
      says (ask.make_dir (codes "/7")) (told done) ∷
      says (ask.make_dir (codes "/8")) (no NoInodes) ∷
      says (ask.open_file (codes "/8") wc) (no NoInodes) ∷
      says (ask.remove_dir (codes "/3")) (told done) ∷
      says (ask.make_dir (codes "/8")) (told done) ∷
      says (ask.stat (codes "/8")) (told (stated 5 Directory 0 1)) ∷
      [];
  points = 1;
}

-- which paths are refused
abbrev pub paths : Row
paths = record {
  request = small;
  tree = only_root;
  exchanges =
      says (ask.make_dir (codes "/aaaaaaaaaaaaaaaaaaaaaaaaaaaa")) (told done) ∷
      says (ask.make_dir (codes "/aaaaaaaaaaaaaaaaaaaaaaaaaaaaa")) (no NameTooLong) ∷
      says (ask.make_dir (codes "a")) (no Invalid) ∷
      says (ask.make_dir (codes "/a//b")) (no Invalid) ∷
      says (ask.make_dir (codes "/a/")) (no Invalid) ∷
      says (ask.make_dir (codes "/./a")) (no Invalid) ∷
      says (ask.make_dir (codes "/..")) (no Invalid) ∷
      says (ask.make_dir []) (no Invalid) ∷
      says (ask.make_dir (47 ∷ 97 ∷ 0 ∷ [])) (no Invalid) ∷
      says (ask.make_dir (codes "/q/r")) (no NoEntry) ∷
      says (ask.stat (codes "/q")) (no NoEntry) ∷
      says (ask.stat (codes "/...")) (no NoEntry) ∷
      says (ask.open_file (codes "/f") wc) (told (number 0)) ∷
      says (ask.stat (codes "/f/g")) (no NotDir) ∷
      says (ask.stat (codes "/f/g/h")) (no NotDir) ∷
      says (ask.stat (codes "//")) (no Invalid) ∷
      says (ask.open_dir (codes "/f")) (no NotDir) ∷
      says (ask.open_dir (codes "/q")) (no NoEntry) ∷
      says (ask.open_dir (codes "/")) (told (number 1)) ∷
      says (ask.read_dir 0) (no NotDir) ∷
      says (ask.rewind 0) (no NotDir) ∷
      says (ask.read_dir 7) (no BadDescriptor) ∷
      says (ask.rewind 7) (no BadDescriptor) ∷
      [];
  points = 1;
}

-- eight names of 28 letters, and one more, in a path of n bytes
abbrev pub long_path : ℕ → List ℕ
long_path n = flat_map (λ _. codes "/" ++ replicate 28 97) (range_with_len 0 8) ++ codes "/" ++ replicate (n - 233) 98

-- a path has at most 255 bytes
abbrev pub long_paths : Row
long_paths = record {
  request = small;
  tree = only_root;
  exchanges =
      says (ask.stat (long_path 255)) (no NoEntry) ∷
      says (ask.stat (long_path 256)) (no NameTooLong) ∷
      says (ask.link (long_path 256) (codes "x")) (no Invalid) ∷
      says (ask.link (long_path 256) (codes "/x")) (no NameTooLong) ∷
      says (ask.link (codes "/x") (long_path 256)) (no NameTooLong) ∷
      says (ask.rename (long_path 256) (codes "x")) (no Invalid) ∷
      says (ask.rename (codes "/") (long_path 256)) (no NameTooLong) ∷
      [];
  points = 1;
}

-- renames that are refused, or change nothing
abbrev pub renames : Row
renames = record {
  request = small;
  tree = only_root;
  exchanges =
      says (ask.make_dir (codes "/a")) (told done) ∷
      says (ask.rename (codes "/a") (codes "/a/b")) (no Invalid) ∷
      says (ask.open_file (codes "/x") wc) (told (number 0)) ∷
      says (ask.rename (codes "/x") (codes "/x")) (told done) ∷
      says (ask.rename (codes "/x") (codes "/a")) (no IsDir) ∷
      says (ask.rename (codes "/a") (codes "/x")) (no NotDir) ∷
      says (ask.rename (codes "/") (codes "/b")) (no Busy) ∷
      says (ask.rename (codes "/b") (codes "/")) (no Busy) ∷
      says (ask.rename (codes "/x/y") (codes "/")) (no Busy) ∷
      says (ask.rename (codes "/b") (codes "/x/y")) (no NoEntry) ∷
      says (ask.rename (codes "/x") (codes "/x/y")) (no NotDir) ∷
      says (ask.rename (codes "/x") (codes "/q/y")) (no NoEntry) ∷
      says (ask.rename (codes "/a") (codes "/a")) (told done) ∷
      says (ask.make_dir (codes "/c")) (told done) ∷
      says (ask.make_dir (codes "/c/d")) (told done) ∷
      says (ask.rename (codes "/a") (codes "/c")) (no NotEmpty) ∷
      says (ask.rename (codes "/c") (codes "/c/d/e")) (no Invalid) ∷
      says (ask.open_dir (codes "/a")) (told (number 1)) ∷
      says (ask.rename (codes "/c/d") (codes "/a")) (no Busy) ∷
      says (ask.close 1) (told done) ∷
      says (ask.rename (codes "/c/d") (codes "/a")) (told done) ∷
      says (ask.stat (codes "/c")) (told (stated 5 Directory 0 1)) ∷
      says (ask.stat (codes "/a")) (told (stated 6 Directory 0 1)) ∷
      says (ask.open_file (codes "/y") wc) (told (number 1)) ∷
      says (ask.rename (codes "/x") (codes "/y")) (no Busy) ∷
      says (ask.link (codes "/y") (codes "/z")) (told done) ∷
      says (ask.rename (codes "/x") (codes "/y")) (told done) ∷
      says (ask.stat (codes "/z")) (told (stated 3 File 0 1)) ∷
      says (ask.link (codes "/z") (codes "/w")) (told done) ∷
      says (ask.rename (codes "/z") (codes "/w")) (told done) ∷
      says (ask.stat (codes "/z")) (told (stated 3 File 0 2)) ∷
      [];
  points = 1;
}

-- a directory that was moved names its new parent, and is no longer below the old one
abbrev pub moved_directory : Row
moved_directory = record {
  request = small;
  tree = only_root;
  exchanges =
      says (ask.make_dir (codes "/a")) (told done) ∷
      says (ask.make_dir (codes "/a/b")) (told done) ∷
      says (ask.rename (codes "/a/b") (codes "/b")) (told done) ∷
      says (ask.rename (codes "/a") (codes "/b/a")) (told done) ∷
      says (ask.stat (codes "/b/a")) (told (stated 3 Directory 0 1)) ∷
      says (ask.rename (codes "/b") (codes "/b/a/b")) (no Invalid) ∷
      says (ask.stat (codes "/")) (told (stated 2 Directory 512 1)) ∷
      [];
  points = 1;
}

-- a directory may be moved to where a path to its entries is too long
abbrev pub longest_names : Row
longest_names = record {
  request = names_of_252;
  tree = only_root;
  exchanges =
      says (ask.make_dir (codes "/a")) (told done) ∷
      says (ask.make_dir (codes "/a/" ++ replicate 250 68)) (told done) ∷
      says (ask.make_dir (codes "/bbbbbbbbbb")) (told done) ∷
      says (ask.rename (codes "/a") (codes "/bbbbbbbbbb/a")) (told done) ∷
      says (ask.stat (codes "/")) (told (stated 2 Directory 512 1)) ∷
      says (ask.stat (codes "/bbbbbbbbbb")) (told (stated 5 Directory 512 1)) ∷
      says (ask.stat (codes "/bbbbbbbbbb/a")) (told (stated 3 Directory 512 1)) ∷
      says (ask.stat (codes "/bbbbbbbbbb/a/" ++ replicate 250 68)) (no NameTooLong) ∷
      [];
  points = 1;
}

-- the new name takes the first empty slot before the old one is cleared
abbrev pub rename_in_one_directory : Row
rename_in_one_directory = record {
  request = small;
  tree = only_root;
  exchanges =
      says (ask.open_file (codes "/a") wc) (told (number 0)) ∷
      says (ask.link (codes "/a") (codes "/b")) (told done) ∷
      says (ask.link (codes "/a") (codes "/c")) (told done) ∷
      says (ask.rename (codes "/a") (codes "/d")) (told done) ∷
      says (ask.open_dir (codes "/")) (told (number 1)) ∷
      says (ask.read_dir 1) (told (entry 3 (codes "b"))) ∷
      says (ask.read_dir 1) (told (entry 3 (codes "c"))) ∷
      says (ask.read_dir 1) (told (entry 3 (codes "d"))) ∷
      says (ask.read_dir 1) (told end) ∷
      says (ask.rename (codes "/d") (codes "/e")) (told done) ∷
      says (ask.rewind 1) (told done) ∷
      says (ask.read_dir 1) (told (entry 3 (codes "e"))) ∷
      says (ask.read_dir 1) (told (entry 3 (codes "b"))) ∷
      says (ask.read_dir 1) (told (entry 3 (codes "c"))) ∷
      says (ask.read_dir 1) (told end) ∷
      [];
  points = 1;
}

-- the node that is replaced is dropped with its last name
abbrev pub rename_over : Row
rename_over = record {
  request = small;
  tree = only_root;
  exchanges =
      says (ask.open_file (codes "/a") wc) (told (number 0)) ∷
      says (ask.fill 0 512 65) (told (number 512)) ∷
      says (ask.close 0) (told done) ∷
      says (ask.open_file (codes "/b") wc) (told (number 0)) ∷
      says (ask.fill 0 1024 65) (told (number 1024)) ∷
      says (ask.close 0) (told done) ∷
      says ask.space (told (left 41 41 45 5 8)) ∷
      says (ask.rename (codes "/a") (codes "/b")) (told done) ∷
      says ask.space (told (left 43 43 45 6 8)) ∷
      says (ask.stat (codes "/a")) (no NoEntry) ∷
      says (ask.stat (codes "/b")) (told (stated 3 File 512 1)) ∷
      says (ask.make_dir (codes "/c")) (told done) ∷
      says (ask.stat (codes "/c")) (told (stated 4 Directory 0 1)) ∷
      [];
  points = 1;
}

-- a file keeps its last name while it is open
abbrev pub unlink_while_open : Row
unlink_while_open = record {
  request = small;
  tree = only_root;
  exchanges =
      says (ask.open_file (codes "/f") wc) (told (number 0)) ∷
      says (ask.unlink (codes "/f")) (no Busy) ∷
      says (ask.link (codes "/f") (codes "/g")) (told done) ∷
      says (ask.unlink (codes "/f")) (told done) ∷
      says (ask.fstat 0) (told (stated 3 File 0 1)) ∷
      says (ask.unlink (codes "/g")) (no Busy) ∷
      says (ask.close 0) (told done) ∷
      says (ask.unlink (codes "/g")) (told done) ∷
      says (ask.unlink (codes "/g")) (no NoEntry) ∷
      says (ask.unlink (codes "/")) (no IsDir) ∷
      says (ask.make_dir (codes "/d")) (told done) ∷
      says (ask.unlink (codes "/d")) (no IsDir) ∷
      says (ask.unlink (codes "/d/x")) (no NoEntry) ∷
      [];
  points = 1;
}

-- names are put into the first empty slot, and empty slots at the end are cut off
abbrev pub slots : Row
slots = record {
  request = small;
  tree = only_root;
  exchanges =
      says (ask.open_file (codes "/f") wc) (told (number 0)) ∷
      says (ask.link (codes "/f") (codes "/n1")) (told done) ∷
      says (ask.link (codes "/f") (codes "/n2")) (told done) ∷
      says (ask.link (codes "/f") (codes "/n3")) (told done) ∷
      says (ask.link (codes "/f") (codes "/n4")) (told done) ∷
      says (ask.link (codes "/f") (codes "/n5")) (told done) ∷
      says (ask.link (codes "/f") (codes "/n6")) (told done) ∷
      says (ask.link (codes "/f") (codes "/n7")) (told done) ∷
      says (ask.link (codes "/f") (codes "/n8")) (told done) ∷
      says (ask.link (codes "/f") (codes "/n9")) (told done) ∷
      says (ask.link (codes "/f") (codes "/n10")) (told done) ∷
      says (ask.link (codes "/f") (codes "/n11")) (told done) ∷
      says (ask.link (codes "/f") (codes "/n12")) (told done) ∷
      says (ask.link (codes "/f") (codes "/n13")) (told done) ∷
      says (ask.link (codes "/f") (codes "/n14")) (told done) ∷
      says (ask.link (codes "/f") (codes "/n15")) (told done) ∷
      says (ask.link (codes "/f") (codes "/n16")) (told done) ∷
      says (ask.stat (codes "/")) (told (stated 2 Directory 1024 1)) ∷
      says (ask.unlink (codes "/n16")) (told done) ∷
      says (ask.stat (codes "/")) (told (stated 2 Directory 512 1)) ∷
      says (ask.unlink (codes "/n3")) (told done) ∷
      says (ask.link (codes "/f") (codes "/z")) (told done) ∷
      says (ask.open_dir (codes "/")) (told (number 1)) ∷
      says (ask.read_dir 1) (told (entry 3 (codes "f"))) ∷
      says (ask.read_dir 1) (told (entry 3 (codes "n1"))) ∷
      says (ask.read_dir 1) (told (entry 3 (codes "n2"))) ∷
      says (ask.read_dir 1) (told (entry 3 (codes "z"))) ∷
      says (ask.read_dir 1) (told (entry 3 (codes "n4"))) ∷
      [];
  points = 1;
}

-- what rmdir refuses
abbrev pub removed_directories : Row
removed_directories = record {
  request = small;
  tree = only_root;
  exchanges =
      says (ask.remove_dir (codes "/")) (no Busy) ∷
      says (ask.remove_dir (codes "/a")) (no NoEntry) ∷
      says (ask.make_dir (codes "/a")) (told done) ∷
      says (ask.make_dir (codes "/a/b")) (told done) ∷
      says (ask.remove_dir (codes "/a")) (no NotEmpty) ∷
      says (ask.open_dir (codes "/a/b")) (told (number 0)) ∷
      says (ask.remove_dir (codes "/a/b")) (no Busy) ∷
      says (ask.read_dir 0) (told end) ∷
      says (ask.close 0) (told done) ∷
      says (ask.remove_dir (codes "/a/b")) (told done) ∷
      says (ask.open_file (codes "/f") wc) (told (number 0)) ∷
      says (ask.remove_dir (codes "/f")) (no NotDir) ∷
      says (ask.remove_dir (codes "/a")) (told done) ∷
      says (ask.make_dir (codes "/f")) (no Exists) ∷
      says (ask.make_dir (codes "/")) (no Exists) ∷
      [];
  points = 1;
}

-- what link refuses
abbrev pub links : Row
links = record {
  request = small;
  tree = only_root;
  exchanges =
      says (ask.make_dir (codes "/d")) (told done) ∷
      says (ask.link (codes "/d") (codes "/e")) (no IsDir) ∷
      says (ask.link (codes "/") (codes "/e")) (no IsDir) ∷
      says (ask.link (codes "/q") (codes "/e")) (no NoEntry) ∷
      says (ask.link (codes "/q") (codes "/q/e")) (no NoEntry) ∷
      says (ask.open_file (codes "/f") wc) (told (number 0)) ∷
      says (ask.link (codes "/f") (codes "/")) (no Exists) ∷
      says (ask.link (codes "/f") (codes "/d")) (no Exists) ∷
      says (ask.link (codes "/f") (codes "/q/e")) (no NoEntry) ∷
      says (ask.link (codes "/f") (codes "/f/e")) (no NotDir) ∷
      says (ask.link (codes "f") (codes "/e")) (no Invalid) ∷
      says (ask.link (codes "/f") (codes "e")) (no Invalid) ∷
      says (ask.link (codes "/f") (codes "/d/g")) (told done) ∷
      says (ask.stat (codes "/d")) (told (stated 3 Directory 512 1)) ∷
      says (ask.stat (codes "/d/g")) (told (stated 4 File 0 2)) ∷
      [];
  points = 1;
}

-- a directory of 120 blocks of two slots takes no further name
abbrev pub greatest_directory : Row
greatest_directory = record {
  request = long_names;
  tree = crowded;
  exchanges =
      says (ask.stat (codes "/")) (told (stated 2 Directory 61440 1)) ∷
      says (ask.link (codes "/aa") (codes "/x")) (no TooBig) ∷
      says (ask.open_file (codes "/x") wc) (no TooBig) ∷
      says (ask.make_dir (codes "/x")) (no TooBig) ∷
      says (ask.rename (codes "/aa") (codes "/x")) (no TooBig) ∷
      says (ask.rename (codes "/aa") (codes "/ab")) (told done) ∷
      says (ask.unlink (codes "/ah")) (told done) ∷
      says (ask.rename (codes "/op") (codes "/x")) (told done) ∷
      says (ask.stat (codes "/x")) (told (stated 3 File 0 239)) ∷
      [];
  points = 1;
}

-- a file has at most 65,535 names
abbrev pub most_links : Row
most_links = record {
  request = small;
  tree = many_names;
  exchanges =
      says (ask.link (codes "/a") (codes "/b")) (no Exists) ∷
      says (ask.link (codes "/a") (codes "/x")) (no TooManyLinks) ∷
      [];
  points = 1;
}

-- all of them
abbrev pub name_rows : List Row
name_rows =
    inodes_run_out ∷ paths ∷ long_paths ∷ renames ∷ moved_directory ∷ longest_names ∷ rename_in_one_directory ∷ rename_over ∷ unlink_while_open ∷ slots ∷
    removed_directories ∷ links ∷ greatest_directory ∷ most_links ∷ []
