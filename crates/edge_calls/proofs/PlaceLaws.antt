-- Where bytes are written by a descriptor.
use Rattle.std.proofs.Common.{◌≡◌, ◌∙◌, ℕ, ◌+◌, nat_lt, not, Bool, true, false, cond, length, refl, sym, ap, Option, Some, None}
use Rattle.std.specs.Prelude.{Ok, Err}
use Rattle.edge_base.specs.commands.Descriptors.{Descriptor, Descriptors, descriptor_at}
use Rattle.edge_base.specs.commands.Refusals.{◌>>=◌, or_refuse, refuse_if}
use Rattle.edge_base.specs.declared.geometry.Request.{Request}
use Rattle.edge_base.specs.declared.node.Head.{Head}
use Rattle.edge_base.specs.declared.refusal.Refusal.{Refusal}
use Rattle.edge_base.specs.declared.refusal.Refusal.TheVariants as refusal
use Rattle.edge_base.specs.layout.Places.{max_size_of}
use Rattle.edge_model.specs.Files.{content_of, write_place}
use Rattle.edge_model.specs.Open.{writable_at}
use Rattle.edge_model.specs.State.{State}
use Rattle.edge_model.specs.Tree.{Tree, node_at}
use Rattle.edge_steps.specs.Session.{IsSession}
use Rattle.edge_image.specs.Opens.{head_of_node}
use Rattle.edge_changes.proofs.EditLaws.{file_of, file_there}
use Rattle.edge_volume.specs.Nodes.{head_at, head_of_some}
use Rattle.edge_calls.specs.Writes.{Target, target_of}
use Rattle.edge_calls.proofs.DescriptorLaws.{with_descriptors}

-- a descriptor that bytes may be written by is open, and of a file
writable_is : (o : Option Descriptor) (d : Descriptor)
    → Ok d ≡ ((or_refuse o refusal.BadDescriptor >>= (λ x. refuse_if x.directory refusal.IsDir >>= (λ u. Ok x))) >>= (λ x. refuse_if (not x.write) refusal.BadDescriptor >>= (λ u. Ok x)))
    → (o ≡ Some d) × (d.directory ≡ false)
writable_is None d is = absurd (cc)
writable_is (Some x) d is = by x.directory refl is
  where
    by_write : (w : Bool) → Ok d ≡ (refuse_if (not w) refusal.BadDescriptor >>= (λ u. Ok x)) → x ≡ d
    by_write true e = cc
    by_write false e = absurd (cc)

    by : (b : Bool) → x.directory ≡ b → Ok d ≡ ((refuse_if b refusal.IsDir >>= (λ u. Ok x)) >>= (λ y. refuse_if (not y.write) refusal.BadDescriptor >>= (λ u. Ok y))) → (Some x ≡ Some d) × (d.directory ≡ false)
    by true kind e = absurd (cc)
    by false kind e =
        let same = by_write x.write e in
        (ap Some same, ap (λ (y : Descriptor). y.directory) (sym same) ∙ kind)

module _ (table : Descriptors) (h : ℕ) (d : Descriptor) (is : (s : State) → s.descriptors ≡ table → Ok d ≡ writable_at s h) where
  pub writable_open : descriptor_at table h ≡ Some d
  writable_open = (writable_is (descriptor_at table h) d (is (with_descriptors table) refl)).0

  pub writable_file : d.directory ≡ false
  writable_file = (writable_is (descriptor_at table h) d (is (with_descriptors table) refl)).1

-- ---- the place

module _ (g : Request) (s : State) (h len : ℕ) where
  pub target_refused : (e : Refusal) → writable_at s h ≡ Err e → target_of g s h len ≡ Err e
  target_refused e is = rw is refl

  pub target_past : (d : Descriptor) → writable_at s h ≡ Ok d → nat_lt (max_size_of g) (write_place s d + len) ≡ true → target_of g s h len ≡ Err refusal.TooBig
  target_past d is past = rw (is, past) refl

  pub target_is : (d : Descriptor) → writable_at s h ≡ Ok d → nat_lt (max_size_of g) (write_place s d + len) ≡ false → target_of g s h len ≡ Ok (record { by = d; at = write_place s d })
  target_is d is within = rw (is, within) refl

-- a node that is there has a head
none_there : (g : Request) (t : Tree) (n : ℕ) → t n ≡ Some (file_of t n) → None ≡ head_at g t n → ⊥
none_there g t n there none = let some = ap (head_of_some g t n) there in absurd (cc)

module _ (g : Request) (z : State) (h : ℕ) (d : Descriptor) (session : IsSession g z) (is_open : descriptor_at z.descriptors h ≡ Some d) (kind : d.directory ≡ false) where
  -- its node is a file
  pub file_open : z.tree d.number ≡ Some (file_of z.tree d.number)
  file_open = let named = session.trees.descriptors h d is_open in file_there z.tree d.number named.there (named.kind ∙ kind)

  pub not_gone : None ≡ head_at g z.tree d.number → ⊥
  not_gone none = none_there g z.tree d.number file_open none

  -- its head tells how many bytes it has
  pub size_is : (head : Head) → Some head ≡ head_at g z.tree d.number → head.size ≡ length (content_of (node_at z.tree d.number))
  size_is head told =
      let some = told ∙ ap (head_of_some g z.tree d.number) file_open in
      let same : head ≡ head_of_node g z.tree d.number (file_of z.tree d.number) = cc in
      ap (λ (x : Head). x.size) same

  -- and so where bytes begin
  pub start_is : (head : Head) → Some head ≡ head_at g z.tree d.number → cond d.append head.size d.at ≡ write_place z d
  start_is head told = ap (λ (k : ℕ). cond d.append k d.at) (size_is head told)

-- ---- what was found

module _ (g : Request) (z : State) (h len most at : ℕ) (d : Descriptor) (head : Head) (session : IsSession g z) (is_open : descriptor_at z.descriptors h ≡ Some d) (kind : d.directory ≡ false)
    (told : Some head ≡ head_at g z.tree d.number) (is : Ok d ≡ writable_at z h) (greatest : most ≡ max_size_of g) (begins : at ≡ cond d.append head.size d.at) where
  begins_so : at ≡ write_place z d
  begins_so = begins ∙ start_is g z h d session is_open kind head told

  test_so : nat_lt most (at + len) ≡ nat_lt (max_size_of g) (write_place z d + len)
  test_so = λ i. nat_lt (greatest i) (begins_so i + len)

  pub found_past : nat_lt most (at + len) ≡ true → Err refusal.TooBig ≡ target_of g z h len
  found_past past = sym (target_past g z h len d (sym is) (sym test_so ∙ past))

  pub found_place : nat_lt most (at + len) ≡ false → Ok (record { by = d; at = at }) ≡ target_of g z h len
  found_place within =
      ap (λ (k : ℕ). Ok (let x : Target = record { by = d; at = k } in x)) begins_so ∙ sym (target_is g z h len d (sym is) (sym test_so ∙ within))
