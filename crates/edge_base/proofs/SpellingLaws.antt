-- Reading answers a pointer node exactly where the block spells it.
use Rattle.std.proofs.Common.{◌≡◌, ℕ, ◌+◌, ◌<◌, ◌≤◌, ◌==◌, ◌&&◌, not, ltb, leb, Bool, true, false, cond, List, drop, length, Result, Ok, Err, refl, subst, ap, ◌∙◌, arith, ◌↔◌}
use Rattle.std.proofs.lemmas.Bool.Decides.{nat_tests}
use Rattle.std.proofs.lemmas.Bool.{eqb-true, eq-eqb}
use Rattle.edge_base.specs.declared.geometry.Request.{Request}
use Rattle.edge_base.specs.declared.node.NodeFault.{NodeFault}
use Rattle.edge_base.specs.declared.node.NodeFault.TheVariants.{WrongSignature, WrongWord, WrongField}
use Rattle.edge_base.specs.layout.Word.{check_word_of}
use Rattle.edge_base.specs.layout.Bytes.{number_at, signature_in}
use Rattle.edge_base.specs.layout.Spelling.{pointer_signature, SpellsPointer, PointerNode, is_owner, pointer_fields, pointer_in}

-- three tests in a row, each with its fault
abbrev tested : Bool → Bool → Bool → PointerNode → Result PointerNode NodeFault
tested sign word owner node = cond (not sign) (Err WrongSignature) (cond (not word) (Err WrongWord) (cond (not owner) (Err (WrongField 16)) (Ok node)))

passed : (sign word owner : Bool) (x y : PointerNode) → tested sign word owner x ≡ Ok y → (sign ≡ true) × (word ≡ true) × (owner ≡ true) × (x ≡ y)
passed true true true x y e = (refl, refl, refl, cc)
passed true true false x y e = absurd (cc)
passed true false owner x y e = absurd (cc)
passed false word owner x y e = absurd (cc)

passes : (sign word owner : Bool) (x : PointerNode) → sign ≡ true → word ≡ true → owner ≡ true → tested sign word owner x ≡ Ok x
passes true true true x s w o = refl
passes true true false x s w o = absurd (cc)
passes true false owner x s w o = absurd (cc)
passes false word owner x s w o = absurd (cc)

owner_within : (n most : ℕ) → (leb 2 n && ltb n most) ≡ true → (2 ≤ n) × (n < most)
owner_within n most e = grind (arith, nat_tests)

is_owner_within : (n most : ℕ) → 2 ≤ n → n < most → (leb 2 n && ltb n most) ≡ true
is_owner_within n most from below = grind (arith, nat_tests)

spelled : (g : Request) (double : Bool) (b : List ℕ) (node : PointerNode) → length b ≡ g.block_size → pointer_in g double b ≡ Ok node
    → SpellsPointer g double (number_at 8 8 b) node.owner node.entries b
unfolding pointer_in pointer_fields
spelled g double b node len e =
    let t = passed (signature_in b == pointer_signature double) (number_at 4 4 b == check_word_of (drop 8 b)) (is_owner g (number_at 16 4 b)) (pointer_fields g b) node e in
    let within = owner_within (number_at 16 4 b) (2 + g.inodes) t.2 in
    record {
      len = len;
      node = record { signature_is = eqb-true _ _ t.0; word_is = eqb-true _ _ t.1; sequence_is = refl };
      owner_is = ap (λ n. n.owner) t.3;
      owner_from = subst (λ n. 2 ≤ n.owner) t.3 within.0;
      owner_below = subst (λ n. n.owner < 2 + g.inodes) t.3 within.1;
      entries_are = ap (λ n. n.entries) t.3;
    }

fields_of : (g : Request) (double : Bool) (sequence owner : ℕ) (entries b : List ℕ) → SpellsPointer g double sequence owner entries b
    → pointer_fields g b ≡ record { owner = owner; entries = entries }
unfolding pointer_fields
fields_of g double sequence owner entries b s i = record { owner = s.owner_is i; entries = s.entries_are i }

pub pointer_in-spelled : (g : Request) (double : Bool) (sequence owner : ℕ) (entries b : List ℕ) → SpellsPointer g double sequence owner entries b
    → pointer_in g double b ≡ Ok (record { owner = owner; entries = entries })
unfolding pointer_in
pointer_in-spelled g double sequence owner entries b s =
    passes _ _ _ (pointer_fields g b) (eq-eqb _ _ s.node.signature_is) (eq-eqb _ _ s.node.word_is)
    (ap (is_owner g) s.owner_is ∙ is_owner_within owner (2 + g.inodes) s.owner_from s.owner_below)
    ∙ ap Ok (fields_of g double sequence owner entries b s)

pub pointer_in-decides : (g : Request) (double : Bool) (b : List ℕ) (node : PointerNode) → length b ≡ g.block_size
    → (pointer_in g double b ≡ Ok node) ↔ SpellsPointer g double (number_at 8 8 b) node.owner node.entries b
pointer_in-decides g double b node len = (spelled g double b node len, pointer_in-spelled g double (number_at 8 8 b) node.owner node.entries b)
