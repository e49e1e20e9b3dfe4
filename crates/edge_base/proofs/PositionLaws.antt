-- Lists of positions as sets.
use Rattle.std.proofs.Common.{◌≡◌, ℕ, ◌+◌, ◌≤◌, ◌&&◌, ◌||◌, not, Bool, true, false, eqb, List, ◌++◌, refl, sym, subst, ap, ◌∙◌, arith}
use Rattle.std.specs.Bool.{Decides}
use Rattle.std.specs.Cmp.{IsEquivalence, decided}
use Rattle.std.specs.List.{filter, flat_map, list_any, Contains}
use Rattle.std.proofs.lemmas.Bool.{eqb-true, eq-eqb, and_parts}
use Rattle.std.proofs.lemmas.List.Folds.{list_any-append}
use Rattle.std.proofs.lemmas.Map.Made.{is_member-filter, is_member-Decides}
use Rattle.edge_base.specs.declared.form.Form.{Form}
use Rattle.edge_base.specs.declared.form.Form.TheVariants.{Plain, Indirect, Double}
use Rattle.edge_base.specs.tree.Positions.{Position, same_form, same_position, has, count_of}
use Rattle.edge_base.proofs.SetLaws.{is_member-flat_map, distinct_count-le_from_members, distinct_count-from_members, distinct_count-append}

-- ---- equal positions

same_form-true : (a b : Form) → same_form a b ≡ true → a ≡ b
same_form-true Plain Plain e = refl
same_form-true Indirect Indirect e = refl
same_form-true Double Double e = refl
same_form-true a b e = absurd (cc)

same_form-same : (a : Form) → same_form a a ≡ true
same_form-same Plain = refl
same_form-same Indirect = refl
same_form-same Double = refl

pub same_position_Decides : (p q : Position) → Decides (same_position p q) (p ≡ q)
same_position_Decides p q = (
  λ e.
      let index = and_parts (eqb p.number q.number && same_form p.form q.form) (eqb p.index q.index) e in
      let form = and_parts (eqb p.number q.number) (same_form p.form q.form) index.0 in
      λ i. record { number = eqb-true _ _ form.0 i; form = same_form-true _ _ form.1 i; index = eqb-true _ _ index.1 i },
  λ e. subst (λ r. same_position p r ≡ true) e (λ i. eq-eqb p.number p.number refl i && same_form-same p.form i && eq-eqb p.index p.index refl i),
)

pub same_position_equiv : IsEquivalence same_position
same_position_equiv = decided same_position same_position_Decides

-- ---- members

pub has-append : (ps qs : List Position) (p : Position) → has (ps ++ qs) p ≡ (has ps p || has qs p)
has-append ps qs p = list_any-append (same_position p) ps qs

pub has-filter : (test : Position → Bool) (ps : List Position) (p : Position) → has (filter test ps) p ≡ (has ps p && test p)
has-filter test ps p = is_member-filter same_position_equiv test p (λ q e. ap test ((same_position_Decides p q).0 e)) ps

pub has-flat_map : {X : Type 0} (f : X → List Position) (xs : List X) (p : Position) → has (flat_map f xs) p ≡ list_any (λ x. has (f x) p) xs
has-flat_map f xs p = is_member-flat_map same_position f xs p

pub has_Decides : (ps : List Position) (p : Position) → Decides (has ps p) (Contains ps p)
has_Decides ps p = is_member-Decides same_position_Decides ps p

-- ---- counts

pub count_of-le_from_has : (ps qs : List Position) → ((p : Position) → has ps p ≡ true → has qs p ≡ true) → count_of ps ≤ count_of qs
count_of-le_from_has ps qs within = distinct_count-le_from_members same_position_equiv ps qs within

pub count_of-from_has : (ps qs : List Position) → ((p : Position) → has ps p ≡ has qs p) → count_of ps ≡ count_of qs
count_of-from_has ps qs same = distinct_count-from_members same_position_equiv ps qs same

pub count_of-append : (ps qs : List Position) → count_of (ps ++ qs) ≡ count_of (filter (λ p. not (has qs p)) ps) + count_of qs
count_of-append ps qs = distinct_count-append same_position_equiv ps qs

pub count_of-filter-le : (test : Position → Bool) (ps : List Position) → count_of (filter test ps) ≤ count_of ps
count_of-filter-le test ps = count_of-le_from_has (filter test ps) ps (λ p h. (and_parts (has ps p) (test p) (sym (has-filter test ps p) ∙ h)).0)

pub count_of-append-le : (ps qs : List Position) → count_of (ps ++ qs) ≤ count_of ps + count_of qs
count_of-append-le ps qs =
    let all = count_of-append ps qs in
    let new = count_of-filter-le (λ p. not (has qs p)) ps in
    omega arith

-- lists with no position in common
pub count_of-append_apart : (ps qs : List Position) → ((p : Position) → has ps p ≡ true → has qs p ≡ false) → count_of (ps ++ qs) ≡ count_of ps + count_of qs
count_of-append_apart ps qs apart =
    count_of-append ps qs ∙ ap (λ (n : ℕ). n + count_of qs) (count_of-from_has (filter new ps) ps (λ p. has-filter new ps p ∙ by (has ps p) (has qs p) (apart p)))
  where
    new : Position → Bool
    new p = not (has qs p)

    by : (one two : Bool) → (one ≡ true → two ≡ false) → (one && not two) ≡ one
    by true two apart = ap not (apart refl)
    by false two apart = refl

-- the positions that pass a test, and those that do not
pub count_of-filter_both : (test : Position → Bool) (ps : List Position) → count_of ps ≡ count_of (filter test ps) + count_of (filter (λ p. not (test p)) ps)
count_of-filter_both test ps =
    count_of-from_has ps (filter test ps ++ filter (λ p. not (test p)) ps)
    (λ p. by (has ps p) (test p) ∙ sym (has-append (filter test ps) _ p ∙ (λ i. has-filter test ps p i || has-filter (λ q. not (test q)) ps p i)))
    ∙ count_of-append_apart _ _ (λ p h. has-filter (λ q. not (test q)) ps p ∙ apart (has ps p) (test p) (sym (has-filter test ps p) ∙ h))
  where
    by : (one two : Bool) → one ≡ ((one && two) || (one && not two))
    by true true = refl
    by true false = refl
    by false two = refl

    apart : (one two : Bool) → (one && two) ≡ true → (one && not two) ≡ false
    apart true true e = refl
    apart true false e = absurd (cc)
    apart false two e = refl
