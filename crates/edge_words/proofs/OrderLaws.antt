-- Orders, and the words that spell them.
use Rattle.std.proofs.Common.{◌≡◌, ℕ, false, ◌==◌, IsTrue, List, [], ◌∷◌, Result, Ok, Err, OnErr, sym, ap, ◌∙◌, subst, codes, arith}
use Rattle.std.proofs.lemmas.Bool.Decides.{nat_tests}
use Rattle.std.specs.List.{list_any}
use Rattle.edge_base.specs.layout.Sizes.{is_block_size}
use Rattle.edge_base.specs.declared.geometry.Request.{Request}
use Rattle.edge_words.specs.Words.{Word, Given, SaysOr}
use Rattle.edge_words.specs.Orders.{Wanted, Run, Format, HasParts, SaysRequest, SpellsRun, SpellsFormat, Spells}
use Rattle.edge_words.proofs.WordLaws.{says_one, says_one_or, one_reading}

-- ---- where no order is spelled

-- the first word is known
pub begin : {first command : Word} {words rest : List Word} → words ≡ first ∷ rest → first ≡ command → words ≡ command ∷ rest
begin {rest = rest} are is = are ∙ ap (λ (word : Word). word ∷ rest) is

pub on_err-map : {T E : Type 0} (r : Result T E) {P Q : Type 0} → (P → Q) → OnErr r P → OnErr r Q
on_err-map (Ok x) f h = tt
on_err-map (Err e) f h = f h

pub no_run : {words : List Word} → ((image : Word) (block_size : ℕ) → ¬ (SpellsRun words image block_size)) → (wanted : Wanted) → ¬ (Spells (codes "run" ∷ words) wanted)
no_run none (Run image block_size) spells = none image block_size spells.1
no_run none (Format image request) spells = let e = spells.0 in cc

pub no_format : {words : List Word} → ((image : Word) (request : Request) → ¬ (SpellsFormat words image request)) → (wanted : Wanted) → ¬ (Spells (codes "format" ∷ words) wanted)
no_format none (Run image block_size) spells = let e = spells.0 in cc
no_format none (Format image request) spells = none image request spells.1

-- ---- one order

-- the parts of words are read in one way
pub one_image : {names words : List Word} {options more : List Given} {image other : Word} → HasParts names words options image
    → HasParts names words more other → (options ≡ more) × (image ≡ other)
one_image one two =
    let same = one_reading one.parts two.parts in
    (same.options_are, first_of_one same.arguments_are)
  where
    first_of_one : {a b : Word} → a ∷ [] ≡ b ∷ [] → a ≡ b
    first_of_one e = cc

one_run : {words : List Word} {image other : Word} {m n : ℕ} → SpellsRun words image m → SpellsRun words other n → (image ≡ other) × (m ≡ n)
one_run one two =
    let same = one_image one.parts two.parts in
    (same.1, says_one_or (subst (λ (options : List Given). SaysOr options _ 512 _) same.0 one.block_size_is.size) two.block_size_is.size)

abbrev made_of : ℕ → ℕ → ℕ → ℕ → ℕ → ℕ → Request
made_of a b c d e f = record { block_size = a; blocks = b; inodes = c; name_max = d; direct = e; indirect = f }

one_request : {options : List Given} {r s : Request} → SaysRequest options r → SaysRequest options s → r ≡ s
one_request one two =
    let block_size = says_one_or one.block_size.size two.block_size.size in
    let blocks = says_one one.blocks two.blocks in
    let inodes = says_one one.inodes two.inodes in
    let name_max = says_one_or one.name_max two.name_max in
    let direct = says_one_or one.direct two.direct in
    let indirect = says_one_or one.indirect two.indirect in
    same_request block_size blocks inodes name_max direct indirect
  where
    same_request : {r s : Request} → r.block_size ≡ s.block_size → r.blocks ≡ s.blocks → r.inodes ≡ s.inodes → r.name_max ≡ s.name_max → r.direct ≡ s.direct
        → r.indirect ≡ s.indirect → r ≡ s
    same_request {r} {s} a b c d e f =
        let made : made_of r.block_size r.blocks r.inodes r.name_max r.direct r.indirect ≡ made_of s.block_size s.blocks s.inodes s.name_max s.direct s.indirect = cc in
        made

one_format : {words : List Word} {image other : Word} {r s : Request} → SpellsFormat words image r → SpellsFormat words other s → (image ≡ other) × (r ≡ s)
one_format one two =
    let same = one_image one.parts two.parts in
    (same.1, one_request (subst (λ (options : List Given). SaysRequest options _) same.0 one.request_is) two.request_is)

pub one_wanted : (words : List Word) (one two : Wanted) → Spells words one → Spells words two → one ≡ two
one_wanted [] one two spells also = elim spells [ ]
one_wanted (command ∷ words) (Run image block_size) (Run other size) spells also =
    let same = one_run spells.1 also.1 in
    cc
one_wanted (command ∷ words) (Run image block_size) (Format other request) spells also = absurd (let e = sym spells.0 ∙ also.0 in cc)
one_wanted (command ∷ words) (Format image request) (Run other size) spells also = absurd (let e = sym spells.0 ∙ also.0 in cc)
one_wanted (command ∷ words) (Format image request) (Format other wanted) spells also =
    let same = one_format spells.1 also.1 in
    cc

-- ---- block sizes

pub none_of_four : {m n : ℕ} → m ≡ n → list_any (λ size. size == m) (512 ∷ 1024 ∷ 2048 ∷ 4096 ∷ []) ≡ false → IsTrue (is_block_size n) → ⊥
none_of_four same none is = grind (arith, nat_tests)
