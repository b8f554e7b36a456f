-- `skogmund_file`: 19, or as `filing::file_by_value` answers, and then what is kept.
-- Assumes nothing.
use mathlib.Core.List.{List, [], ◌∷◌}
use Prim.Native.Nat.{ℕ, ◌≤◌}
use mathlib.Core.Path.{◌≡◌, refl, sym, ap, ap₂, ◌∙◌}
use borrow.Author.Rules.{rules}
use borrow.Author.Tests.{lt-ltb, le-ltb}
use Rattle.std.specs.Prelude.{Option, Result, Ok, Err}
use Rattle.layout.specs.declared.Refusal.{Refusal}
use Rattle.shelf.specs.declared.Shelf.{Shelf}
use Rattle.shelf_octets.specs.ShelfOctets.{shelf_in}
use Rattle.filing.specs.declared.Change.{Change}
use Rattle.filing.specs.declared.Change.TheVariants.{Kept, Passed}
use Rattle.filing.specs.declared.Filed.{Filed}
use Rattle.filing.specs.Filing.{filed_of, issue_from, stored_issue}
use Rattle.filing.proofs.StoredIssues.{stored-issue, too_large}
use Rattle.filing.proofs.RefusalNumbers.{filing-refuses}
use Rattle.lent.specs.Lent.{done_both}
use Rattle.skogmund.specs.Entries.{code_of}
use Rattle.skogmund.specs.Shelves.{kept_in, field_kept, filed_field}
use Rattle.skogmund.proofs.shelves.skogmund_file.Goals as goal

-- a number that stores no issue: 19, and both are left
no-issue : {x : Refusal} (held : List ℕ) (slot stored : ℕ) (s1 s3 s4 s5 s7 kept : List ℕ) → Err x ≡ stored_issue stored
    → done_both (code_of x) held kept ≡ filed_field held slot stored s1 s3 s4 s5 s7 kept
unfolding filed_field
no-issue held slot stored s1 s3 s4 s5 s7 kept e =
    let large = too_large stored _ (sym e) in
    simp (lt-ltb _ _ large.0, large.1)

-- an issue: what is filed is filed to the shelf that the octets are, with the issue that is stored
module _ {done : Filed} {shelf : Shelf} {issue : Option ℕ} (held : List ℕ) (slot stored : ℕ) (s1 s3 s4 s5 s7 kept : List ℕ)
    (e : done ≡ filed_of shelf slot issue s1 s3 s4 s5 s7) (s : shelf ≡ shelf_in held) (i : Ok issue ≡ stored_issue stored) where
  filed-is : done ≡ filed_of (shelf_in held) slot (issue_from stored) s1 s3 s4 s5 s7
  filed-is = e ∙ ap₂ (λ (s : Shelf) (i : Option ℕ). filed_of s slot i s1 s3 s4 s5 s7) s (stored-issue _ _ (sym i)).1

  -- as it is answered
  field-is : (answer : Result Change Refusal) → done.answer ≡ answer → field_kept held kept done.shelf answer ≡ filed_field held slot stored s1 s3 s4 s5 s7 kept
  unfolding filed_field
  field-is answer r = sym (ap (field_kept held kept done.shelf) r) ∙ rw (le-ltb _ _ (stored-issue _ _ (sym i)).0, ← filed-is) refl

  kept-is : done.answer ≡ Ok Kept → kept_in held kept done.shelf (1 ∷ []) ≡ filed_field held slot stored s1 s3 s4 s5 s7 kept
  unfolding field_kept
  kept-is r = field-is (Ok Kept) r

  passed-is : done.answer ≡ Ok Passed → kept_in held kept done.shelf (0 ∷ []) ≡ filed_field held slot stored s1 s3 s4 s5 s7 kept
  unfolding field_kept
  passed-is r = field-is (Ok Passed) r

  refused-is : (x : Refusal) → done.answer ≡ Err x → done_both (code_of x) held kept ≡ filed_field held slot stored s1 s3 s4 s5 s7 kept
  unfolding field_kept
  refused-is x r = field-is (Err x) r

  placed : (x : Refusal) → done.answer ≡ Err x → x.place ≤ 65537
  placed x r = (filing-refuses _ _ _ _ _ _ _ _ _ (sym (ap (λ (y : Filed). y.answer) filed-is) ∙ r)).placed.within

pub returns-in-Err : goal.returns-in-Err
returns-in-Err c =
    let a = c.args in
    ap (λ (n : ℕ). done_both n a.shelf.now a.kept.now) c.code.ensures
    ∙ no-issue a.shelf.now a.slot a.issue_plus_1 a.section1.now a.section3.now a.section4.now a.section5.now a.section7.now a.kept.now c.in-Err.ensures

pub code-requires-in-Err-answer : goal.code-requires-in-Err-answer
code-requires-in-Err-answer c =
    let a = c.args in
    placed a.shelf.now a.slot a.issue_plus_1 a.section1.now a.section3.now a.section4.now a.section5.now a.section7.now a.kept.now
    c.file_by_value-done.ensures c.read.ensures c.in-Ok.ensures _ c.in-Err-answer.is

pub returns-in-Ok-Kept : goal.returns-in-Ok-Kept
returns-in-Ok-Kept c =
    let a = c.args in
    c.keep.ensures
    ∙ kept-is a.shelf.now a.slot a.issue_plus_1 a.section1.now a.section3.now a.section4.now a.section5.now a.section7.now a.kept.now
    c.file_by_value-done.ensures c.read.ensures c.in-Ok.ensures (search rules)

pub returns-in-Ok-Passed : goal.returns-in-Ok-Passed
returns-in-Ok-Passed c =
    let a = c.args in
    c.keep-in-Ok-Passed.ensures
    ∙ passed-is a.shelf.now a.slot a.issue_plus_1 a.section1.now a.section3.now a.section4.now a.section5.now a.section7.now a.kept.now
    c.file_by_value-done.ensures c.read.ensures c.in-Ok.ensures (search rules)

pub returns-in-Err-answer : goal.returns-in-Err-answer
returns-in-Err-answer c =
    let a = c.args in
    ap (λ (n : ℕ). done_both n a.shelf.now a.kept.now) c.code-in-Err-answer.ensures
    ∙ refused-is a.shelf.now a.slot a.issue_plus_1 a.section1.now a.section3.now a.section4.now a.section5.now a.section7.now a.kept.now
    c.file_by_value-done.ensures c.read.ensures c.in-Ok.ensures _ c.in-Err-answer.is
