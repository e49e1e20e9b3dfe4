-- A line spells a command exactly where it is read as it.
use Rattle.std.proofs.Common.{◌≡◌, ℕ, ◌≤◌, Bool, true, false, cond, eqb, List, [], ◌∷◌, ◌++◌, length, Option, Some, None, refl, sym, ap, ◌∙◌, subst, arith}
use Rattle.std.specs.Prelude.{nat_le, option_map}
use Rattle.std.specs.Option.{option_or}
use Rattle.std.specs.Str.{bytes_eq}
use Rattle.std.proofs.lemmas.Bool.Decides.{nat_tests}
use Rattle.std.proofs.lemmas.Slice.Eq.{bytes_eq-Decides}
use Rattle.edge_model.specs.Asked as c
use Rattle.edge_model.specs.Asked.{Asked}
use Rattle.edge_script.specs.declared.verb.Verb.{Verb}
use Rattle.edge_script.specs.declared.verb.Verb.TheVariants as v
use Rattle.edge_script.proofs.Tests.{le_of, of_le}
use Rattle.edge_script.specs.Numbers.{Word, number_in, greatest_u32, greatest_u64, most_read, most_filled}
use Rattle.edge_script.specs.Bytes.{path_in, hex_in, byte_in}
use Rattle.edge_script.specs.Flags.{flags_in}
use Rattle.edge_script.specs.Verbs.{name_of, file_verbs, other_verbs, verb_among}
use Rattle.edge_script.specs.Commands
use Rattle.edge_script.specs.Commands.{IsCommand, SpellsCommand, SpellsDescriptor, SpellsSize, line_of, most_line}
use Rattle.edge_script.specs.Reading.{split_at_space, behind_byte, both, two_parts, two, descriptor_in, size_in, filling_in, verb_in, alone, command_of, with_verb, by_parts, command_of_bytes, command_in}
use Rattle.edge_script.proofs.NumberLaws.{number_read, number_spelled, number_ends}
use Rattle.edge_script.proofs.ByteLaws.{path_read, path_spelled, path_ends, hex_read, hex_spelled, byte_read, byte_spelled}
use Rattle.edge_script.proofs.FlagLaws.{flags_read, flags_spelled}

-- ---- what is spelled is read

two_read : {A B C : Type 0} (make : A → B → C) (first : Word → Option A) (second : List ℕ → Option B) (word rest : List ℕ) (x : A) (y : B)
    → split_at_space (word ++ 32 ∷ rest) ≡ Some (word, rest) → first word ≡ Some x → second rest ≡ Some y
    → two make first second (word ++ 32 ∷ rest) ≡ Some (make x y)
two_read make first second word rest x y ends is also = ap (two_parts make first second) ends ∙ (λ i. both make (is i) (also i))

half : greatest_u32 ≤ greatest_u64
half = omega arith

words_read : {words : List Word} {command : Asked} → IsCommand words command → command_of_bytes (line_of words) ≡ Some command
unfolding command_of_bytes
words_read (Commands.is_open {p} {f} {path} {flags} path_is flags_is) =
    two_read c.open_file path_in flags_in p f path flags (path_ends path_is.bytes f) (path_read path_is) (flags_read flags_is)
words_read (Commands.is_close h_is) = ap (option_map c.close) (number_read half h_is)
words_read (Commands.is_read {w} {k} {h} {n} h_is n_is) = two_read c.read descriptor_in (number_in 1 most_read) w k h n (number_ends half h_is k)
    (number_read half h_is) (number_read (omega arith) n_is)
words_read (Commands.is_write {w} {x} {h} {bytes} h_is x_is) = two_read c.write descriptor_in hex_in w x h bytes (number_ends half h_is x)
    (number_read half h_is) (hex_read x_is)
words_read (Commands.is_fill {w} {k} {x} {h} {n} {b} h_is n_is b_is) =
    two_read (λ (h : ℕ) (filling : ℕ × ℕ). c.fill h filling.0 filling.1) descriptor_in filling_in w (k ++ 32 ∷ x) h (n, b)
    (number_ends half h_is (k ++ 32 ∷ x)) (number_read half h_is)
    (two_read (λ (n : ℕ) (b : ℕ). (n, b)) (number_in 1 most_filled) byte_in k x n b (number_ends (omega arith) n_is x)
    (number_read (omega arith) n_is) (byte_read b_is))
words_read (Commands.is_seek {w} {k} {h} {n} h_is n_is) = two_read c.seek descriptor_in size_in w k h n (number_ends half h_is k)
    (number_read half h_is) (number_read (omega arith) n_is)
words_read (Commands.is_truncate {w} {k} {h} {n} h_is n_is) = two_read c.truncate descriptor_in size_in w k h n (number_ends half h_is k)
    (number_read half h_is) (number_read (omega arith) n_is)
words_read (Commands.is_fsync h_is) = ap (option_map c.fsync) (number_read half h_is)
words_read (Commands.is_link {p} {q} {path} {to} path_is to_is) = two_read c.link path_in path_in p q path to (path_ends path_is.bytes q)
    (path_read path_is) (path_read to_is)
words_read (Commands.is_unlink path_is) = ap (option_map c.unlink) (path_read path_is)
words_read (Commands.is_rename {p} {q} {path} {to} path_is to_is) = two_read c.rename path_in path_in p q path to (path_ends path_is.bytes q)
    (path_read path_is) (path_read to_is)
words_read (Commands.is_make_dir path_is) = ap (option_map c.make_dir) (path_read path_is)
words_read (Commands.is_remove_dir path_is) = ap (option_map c.remove_dir) (path_read path_is)
words_read (Commands.is_open_dir path_is) = ap (option_map c.open_dir) (path_read path_is)
words_read (Commands.is_read_dir h_is) = ap (option_map c.read_dir) (number_read half h_is)
words_read (Commands.is_rewind h_is) = ap (option_map c.rewind) (number_read half h_is)
words_read (Commands.is_stat path_is) = ap (option_map c.stat) (path_read path_is)
words_read (Commands.is_fstat h_is) = ap (option_map c.fstat) (number_read half h_is)
words_read Commands.is_space = refl
words_read Commands.is_mask = refl
words_read (Commands.is_set_mask n_is) = ap (option_map c.set_mask) (number_read half n_is)
words_read Commands.is_transact = refl

pub command_read : {line : List ℕ} {command : Asked} → SpellsCommand line command → command_in line ≡ Some command
command_read {line} {command} spells =
    ap (λ t. cond t (command_of_bytes line) None) (of_le (length line) 8209 spells.short)
    ∙ ap command_of_bytes spells.line_is ∙ words_read spells.are_words

-- ---- what is read is spelled

-- the parts around the first space
record IsSplit (text word rest : List ℕ) : Type 0 where
  text_is : text ≡ word ++ 32 ∷ rest

space_of : (b : ℕ) → eqb b 32 ≡ true → b ≡ 32
space_of b e = grind (arith, nat_tests)

first_of : {A : Type 0} (x y : A) → Some x ≡ Some y → x ≡ y
first_of x y e = cc

parts_of : (one two : List ℕ × List ℕ) → Some one ≡ Some two → (one.0 ≡ two.0) × (one.1 ≡ two.1)
parts_of one two e = let same : one ≡ two = first_of one two e in ((λ i. (same i).0), (λ i. (same i).1))

split_is : (text word rest : List ℕ) → split_at_space text ≡ Some (word, rest) → text ≡ word ++ 32 ∷ rest
split_is [] word rest e = absurd (cc)
split_is (b ∷ text) word rest e = go (split_is text) (eqb b 32) refl e
  where
    behind : ((front back : List ℕ) → split_at_space text ≡ Some (front, back) → text ≡ front ++ 32 ∷ back) → (o : Option (List ℕ × List ℕ))
        → split_at_space text ≡ o → behind_byte b o ≡ Some (word, rest) → b ∷ text ≡ word ++ 32 ∷ rest
    behind splits None is e = absurd (cc)
    behind splits (Some (front, back)) is e =
        let p = parts_of _ _ e in
        ap (λ (bytes : List ℕ). b ∷ bytes) (splits front back is) ∙ (λ i. p.0 i ++ 32 ∷ p.1 i)

    go : ((front back : List ℕ) → split_at_space text ≡ Some (front, back) → text ≡ front ++ 32 ∷ back) → (t : Bool) → eqb b 32 ≡ t
        → cond t (Some ([], text)) (behind_byte b (split_at_space text)) ≡ Some (word, rest) → b ∷ text ≡ word ++ 32 ∷ rest
    go splits true is e =
        let p = parts_of _ _ e in
        (λ i. space_of b is i ∷ p.1 i) ∙ ap (λ (front : List ℕ). front ++ 32 ∷ rest) p.0
    go splits false is e = behind splits (split_at_space text) refl e

-- two parts that were read
record ReadsTwo {A B C : Type 0} (make : A → B → C) (first : Word → Option A) (second : List ℕ → Option B) (text : List ℕ) (made : C) : Type 0 where
  word : List ℕ
  rest : List ℕ
  x : A
  y : B
  text_is : text ≡ word ++ 32 ∷ rest
  first_is : first word ≡ Some x
  second_is : second rest ≡ Some y
  made_is : make x y ≡ made

reads_two : {A B C : Type 0} (make : A → B → C) (first : Word → Option A) (second : List ℕ → Option B) (text : List ℕ) (made : C)
    → two make first second text ≡ Some made → ReadsTwo make first second text made
reads_two {A} {B} {C} make first second text made e = go (split_at_space text) refl e
  where
    pair_of : (word rest : List ℕ) → split_at_space text ≡ Some (word, rest) → (a : Option A) → first word ≡ a → (b : Option B) → second rest ≡ b
        → both make a b ≡ Some made
        → ReadsTwo make first second text made
    pair_of word rest is None a_is b b_is e = absurd (cc)
    pair_of word rest is (Some x) a_is None b_is e = absurd (cc)
    pair_of word rest is (Some x) a_is (Some y) b_is e = record {
      word = word;
      rest = rest;
      x = x;
      y = y;
      text_is = split_is text word rest is;
      first_is = a_is;
      second_is = b_is;
      made_is = (cc);
    }

    go : (o : Option (List ℕ × List ℕ)) → split_at_space text ≡ o → two_parts make first second o ≡ Some made → ReadsTwo make first second text made
    go None is e = absurd (cc)
    go (Some (word, rest)) is e = pair_of word rest is (first word) refl (second rest) refl e

record ReadsOne {A C : Type 0} (make : A → C) (read : Option A) (made : C) : Type 0 where
  x : A
  is : read ≡ Some x
  made_is : make x ≡ made

reads_one : {A C : Type 0} (make : A → C) (read : Option A) (made : C) → option_map make read ≡ Some made → ReadsOne make read made
reads_one make None made e = absurd (cc)
reads_one make (Some x) made e = record { x = x; is = refl; made_is = (cc) }

-- what stands behind a verb spells the rest of a command
record IsBehind (verb : Verb) (text : List ℕ) (command : Asked) : Type 0 where
  word : Word
  words : List Word
  are : IsCommand (name_of verb ∷ word ∷ words) command
  text_is : text ≡ line_of (word ∷ words)

-- a command of one word behind the verb
of_one : (verb : Verb) {A : Type 0} (make : A → Asked) (text : List ℕ) (read : Option A) (command : Asked)
    → ((x : A) → read ≡ Some x → IsCommand (name_of verb ∷ text ∷ []) (make x))
    → option_map make read ≡ Some command → IsBehind verb text command
of_one verb make text read command is e =
    let r = reads_one make read command e in
    record { word = text; words = []; are = subst (IsCommand (name_of verb ∷ text ∷ [])) r.made_is (is r.x r.is); text_is = refl }

-- a command of two
of_two : (verb : Verb) {A B : Type 0} (make : A → B → Asked) (first : Word → Option A) (second : List ℕ → Option B) (text : List ℕ) (command : Asked)
    → ((word rest : List ℕ) (x : A) (y : B) → first word ≡ Some x → second rest ≡ Some y → IsCommand (name_of verb ∷ word ∷ rest ∷ []) (make x y))
    → two make first second text ≡ Some command → IsBehind verb text command
of_two verb make first second text command is e =
    let r = reads_two make first second text command e in
    record {
      word = r.word;
      words = r.rest ∷ [];
      are =
          subst (IsCommand (name_of verb ∷ r.word ∷ r.rest ∷ [])) r.made_is (is r.word r.rest r.x r.y r.first_is r.second_is);
      text_is = r.text_is;
    }

descriptor : {word : Word} {h : ℕ} → descriptor_in word ≡ Some h → SpellsDescriptor word h
descriptor e = number_spelled half e

size : {word : Word} {n : ℕ} → size_in word ≡ Some n → SpellsSize word n
size e = number_spelled (omega arith) e

is_filling : (text : List ℕ) (command : Asked) → command_of v.Fill text ≡ Some command → IsBehind v.Fill text command
is_filling text command e =
    let r = reads_two (λ (h : ℕ) (filling : ℕ × ℕ). c.fill h filling.0 filling.1) descriptor_in filling_in text command e in
    let s = reads_two (λ (n : ℕ) (b : ℕ). (n, b)) (number_in 1 most_filled) byte_in r.rest r.y r.second_is in
    record {
      word = r.word;
      words = s.word ∷ s.rest ∷ [];
      are = subst (IsCommand (codes_fill ∷ r.word ∷ s.word ∷ s.rest ∷ [])) (ap (λ (filling : ℕ × ℕ). c.fill r.x filling.0 filling.1) s.made_is ∙ r.made_is)
          (Commands.is_fill (descriptor r.first_is) (number_spelled (omega arith) s.first_is) (byte_spelled s.rest s.y s.second_is));
      text_is = r.text_is ∙ ap (λ (rest : List ℕ). r.word ++ 32 ∷ rest) s.text_is;
    }
  where
    codes_fill : Word
    codes_fill = name_of v.Fill

behind_spelled : (verb : Verb) (text : List ℕ) (command : Asked) → command_of verb text ≡ Some command → IsBehind verb text command
behind_spelled v.Open text command e =
    of_two v.Open c.open_file path_in flags_in text command (λ w r x y i j. Commands.is_open (path_spelled w x i) (flags_spelled r y j)) e
behind_spelled v.Close text command e = of_one v.Close c.close text (descriptor_in text) command (λ x i. Commands.is_close (descriptor i)) e
behind_spelled v.Read text command e = of_two v.Read c.read descriptor_in (number_in 1 most_read) text command
    (λ w r x y i j. Commands.is_read (descriptor i) (number_spelled (omega arith) j)) e
behind_spelled v.Write text command e =
    of_two v.Write c.write descriptor_in hex_in text command (λ w r x y i j. Commands.is_write (descriptor i) (hex_spelled r y j)) e
behind_spelled v.Fill text command e = is_filling text command e
behind_spelled v.Seek text command e = of_two v.Seek c.seek descriptor_in size_in text command (λ w r x y i j. Commands.is_seek (descriptor i) (size j)) e
behind_spelled v.Truncate text command e =
    of_two v.Truncate c.truncate descriptor_in size_in text command (λ w r x y i j. Commands.is_truncate (descriptor i) (size j)) e
behind_spelled v.Fsync text command e = of_one v.Fsync c.fsync text (descriptor_in text) command (λ x i. Commands.is_fsync (descriptor i)) e
behind_spelled v.Link text command e =
    of_two v.Link c.link path_in path_in text command (λ w r x y i j. Commands.is_link (path_spelled w x i) (path_spelled r y j)) e
behind_spelled v.Unlink text command e = of_one v.Unlink c.unlink text (path_in text) command (λ x i. Commands.is_unlink (path_spelled text x i)) e
behind_spelled v.Rename text command e =
    of_two v.Rename c.rename path_in path_in text command (λ w r x y i j. Commands.is_rename (path_spelled w x i) (path_spelled r y j)) e
behind_spelled v.MakeDir text command e = of_one v.MakeDir c.make_dir text (path_in text) command (λ x i. Commands.is_make_dir (path_spelled text x i)) e
behind_spelled v.RemoveDir text command e =
    of_one v.RemoveDir c.remove_dir text (path_in text) command (λ x i. Commands.is_remove_dir (path_spelled text x i)) e
behind_spelled v.OpenDir text command e = of_one v.OpenDir c.open_dir text (path_in text) command (λ x i. Commands.is_open_dir (path_spelled text x i)) e
behind_spelled v.ReadDir text command e = of_one v.ReadDir c.read_dir text (descriptor_in text) command (λ x i. Commands.is_read_dir (descriptor i)) e
behind_spelled v.Rewind text command e = of_one v.Rewind c.rewind text (descriptor_in text) command (λ x i. Commands.is_rewind (descriptor i)) e
behind_spelled v.Stat text command e = of_one v.Stat c.stat text (path_in text) command (λ x i. Commands.is_stat (path_spelled text x i)) e
behind_spelled v.Fstat text command e = of_one v.Fstat c.fstat text (descriptor_in text) command (λ x i. Commands.is_fstat (descriptor i)) e
behind_spelled v.Space text command e = absurd (cc)
behind_spelled v.Mask text command e = absurd (cc)
behind_spelled v.SetMask text command e = of_one v.SetMask c.set_mask text (number_in 0 greatest_u32 text) command
    (λ x i. Commands.is_set_mask (number_spelled half i)) e
behind_spelled v.Transact text command e = absurd (cc)

-- a verb is named by its word
among_named : (verbs : List Verb) (word : Word) (verb : Verb) → verb_among verbs word ≡ Some verb → word ≡ name_of verb
among_named [] word verb e = absurd (cc)
among_named (x ∷ verbs) word verb e = go (among_named verbs word verb) (bytes_eq word (name_of x)) refl e
  where
    go : (verb_among verbs word ≡ Some verb → word ≡ name_of verb) → (t : Bool) → bytes_eq word (name_of x) ≡ t
        → cond t (Some x) (verb_among verbs word) ≡ Some verb → word ≡ name_of verb
    go others true is e = (bytes_eq-Decides word (name_of x)).0 is ∙ ap name_of (let same : x ≡ verb = cc in same)
    go others false is e = others e

verb_named : (word : Word) (verb : Verb) → verb_in word ≡ Some verb → word ≡ name_of verb
verb_named word verb e = go (verb_among file_verbs word) refl e
  where
    go : (o : Option Verb) → verb_among file_verbs word ≡ o → option_or o (verb_among other_verbs word) ≡ Some verb → word ≡ name_of verb
    go None is e = among_named other_verbs word verb e
    go (Some x) is e = among_named file_verbs word verb (is ∙ e)

-- the words that a line is
record IsLine (line : List ℕ) (command : Asked) : Type 0 where
  words : List Word
  are : IsCommand words command
  line_is : line ≡ line_of words

same : (a b : Asked) → Some a ≡ Some b → a ≡ b
same a b e = cc

alone_spelled : (line : List ℕ) (o : Option Verb) (command : Asked) → verb_in line ≡ o → alone o ≡ Some command → IsLine line command
alone_spelled line None command is e = absurd (cc)
alone_spelled line (Some v.Open) command is e = absurd (cc)
alone_spelled line (Some v.Close) command is e = absurd (cc)
alone_spelled line (Some v.Read) command is e = absurd (cc)
alone_spelled line (Some v.Write) command is e = absurd (cc)
alone_spelled line (Some v.Fill) command is e = absurd (cc)
alone_spelled line (Some v.Seek) command is e = absurd (cc)
alone_spelled line (Some v.Truncate) command is e = absurd (cc)
alone_spelled line (Some v.Fsync) command is e = absurd (cc)
alone_spelled line (Some v.Link) command is e = absurd (cc)
alone_spelled line (Some v.Unlink) command is e = absurd (cc)
alone_spelled line (Some v.Rename) command is e = absurd (cc)
alone_spelled line (Some v.MakeDir) command is e = absurd (cc)
alone_spelled line (Some v.RemoveDir) command is e = absurd (cc)
alone_spelled line (Some v.OpenDir) command is e = absurd (cc)
alone_spelled line (Some v.ReadDir) command is e = absurd (cc)
alone_spelled line (Some v.Rewind) command is e = absurd (cc)
alone_spelled line (Some v.Stat) command is e = absurd (cc)
alone_spelled line (Some v.Fstat) command is e = absurd (cc)
alone_spelled line (Some v.Space) command is e =
    record {
      words = name_of v.Space ∷ [];
      are = subst (IsCommand (name_of v.Space ∷ [])) (same c.space command e) Commands.is_space;
      line_is =
          verb_named line v.Space is;
    }
alone_spelled line (Some v.Mask) command is e =
    record {
      words = name_of v.Mask ∷ [];
      are = subst (IsCommand (name_of v.Mask ∷ [])) (same c.mask command e) Commands.is_mask;
      line_is =
          verb_named line v.Mask is;
    }
alone_spelled line (Some v.SetMask) command is e = absurd (cc)
alone_spelled line (Some v.Transact) command is e =
    record {
      words = name_of v.Transact ∷ [];
      are =
          subst (IsCommand (name_of v.Transact ∷ [])) (same c.transact command e) Commands.is_transact;
      line_is = verb_named line v.Transact is;
    }

with_verb_spelled : (word rest : List ℕ) (o : Option Verb) (command : Asked) → verb_in word ≡ o → with_verb o rest ≡ Some command
    → IsLine (word ++ 32 ∷ rest) command
with_verb_spelled word rest None command is e = absurd (cc)
with_verb_spelled word rest (Some verb) command is e =
    let b = behind_spelled verb rest command e in
    record { words = name_of verb ∷ b.word ∷ b.words; are = b.are; line_is = λ i. verb_named word verb is i ++ 32 ∷ b.text_is i }

bytes_spelled : (line : List ℕ) (command : Asked) → command_of_bytes line ≡ Some command → IsLine line command
unfolding command_of_bytes
bytes_spelled line command e = go (split_at_space line) refl e
  where
    go : (o : Option (List ℕ × List ℕ)) → split_at_space line ≡ o → by_parts line o ≡ Some command → IsLine line command
    go None is e = alone_spelled line (verb_in line) command refl e
    go (Some (word, rest)) is e = subst (λ (text : List ℕ). IsLine text command) (sym (split_is line word rest is))
        (with_verb_spelled word rest (verb_in word) command refl e)

pub command_spelled : (line : List ℕ) (command : Asked) → command_in line ≡ Some command → SpellsCommand line command
command_spelled line command e = go (nat_le (length line) 8209) refl e
  where
    go : (t : Bool) → nat_le (length line) 8209 ≡ t → cond t (command_of_bytes line) None ≡ Some command → SpellsCommand line command
    go true is e =
        let l = bytes_spelled line command e in
        record { words = l.words; are_words = l.are; line_is = l.line_is; short = le_of _ _ is }
    go false is e = absurd (cc)
