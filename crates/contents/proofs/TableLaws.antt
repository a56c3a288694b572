-- Laws of the contents of a recording: what a right table says of each entry and its body.
-- Assumes nothing.
use mathlib.Core.Path.{◌≡◌, refl, ap}
use mathlib.Core.Bool.{true, false, ◌&&◌}
use mathlib.Core.List.{List}
use Prim.Native.Nat.{ℕ, zero, suc, ◌+◌, ◌-◌, ◌≤◌, ◌<◌}
use native.Mathlib.Numerals.{add-one}
use native.Mathlib.Decide.{dec_lt}
use native.Mathlib.Omega.{arith}
use lib.Dec.{leb, eqb}
use lib.ListN.{length, take, drop, get_or}
use borrow.Author.Tests.{leb-true, eqb-true}
use Rattle.base.specs.Every.{all_below}
use Rattle.base.proofs.EveryLaws.{all-at}
use Rattle.base.proofs.Booleans.{and_left, and_right, cond-none, cond-some, cond-most}
use Rattle.component.specs.Checks.{in_range}
use Rattle.component.proofs.ChecksLaws.{range-least, range-most}
use Rattle.contents.specs.Table.{stated_count, entry_offset, offset_at, length_at, body_start, entry_is_right, table_is_right, entry_count, entry_at, body}
use Rattle.contents.specs.declared.table.Entry.{Entry}

module _ (file : List ℕ) where
  -- a body starts where the one before it ends
  pub first_body : body_start file 0 ≡ entry_offset (stated_count file)
  unfolding body_start
  first_body = refl

  pub next-body : (k : ℕ) → body_start file (k + 1) ≡ body_start file k + length_at file k
  unfolding body_start
  next-body k = ap (body_start file) (add-one k)

  -- and so never before an earlier one
  pub bodies-in-order : (k n : ℕ) → k ≤ n → body_start file k ≤ body_start file n
  unfolding body_start
  bodies-in-order k zero h = let e : k ≡ 0 = omega arith in rw e (omega arith)
  bodies-in-order k (suc n) h =
      elim (dec_lt n k) [
        | yes above ↦ let e : k ≡ suc n = omega arith in rw e (omega arith)
        | no not_above ↦ omega (arith, bodies-in-order k n (omega arith))
      ]

  -- what a right table says
  pub record RightTable : Type 0 where
    pub count-least : 1 ≤ stated_count file
    pub count_most : stated_count file ≤ 16
    pub table-inside : entry_offset (stated_count file) ≤ length file
    pub entries-right : all_below (stated_count file) (entry_is_right file) ≡ true
    pub last-ends : body_start file (stated_count file) ≡ length file

  pub right : table_is_right file ≡ true → RightTable
  unfolding table_is_right
  right e =
      let size = leb (length file) 65536 in
      let range = in_range 1 16 (stated_count file) in
      let room = leb (entry_offset (stated_count file)) (length file) in
      let entries = all_below (stated_count file) (entry_is_right file) in
      let end = eqb (body_start file (stated_count file)) (length file) in
      let four = and_left (size && range && room && entries) end e in
      let three = and_left (size && range && room) entries four in
      let two = and_left (size && range) room three in
      let in-range = and_right size range two in
      record {
        count-least = range-least 1 16 (stated_count file) in-range;
        count_most = range-most 1 16 (stated_count file) in-range;
        table-inside = leb-true (entry_offset (stated_count file)) (length file) (and_right (size && range) room three);
        entries-right = and_right (size && range && room) entries four;
        last-ends = eqb-true (body_start file (stated_count file)) (length file) (and_right (size && range && room && entries) end e);
      }

  -- a right table has as many entries as it states
  pub count-right : table_is_right file ≡ true → entry_count file ≡ stated_count file
  unfolding entry_count
  count-right e = rw e

  -- so a table without entries is wrong, and one with an entry is right
  pub no-entry : entry_count file ≡ 0 → table_is_right file ≡ false
  unfolding entry_count
  no-entry e = cond-none (table_is_right file) (stated_count file) (λ r. (right r).count-least) e

  pub entry-right : (k : ℕ) → k < entry_count file → table_is_right file ≡ true
  unfolding entry_count
  entry-right k h = cond-some (table_is_right file) (stated_count file) k h

  -- there are at most 16 entries
  pub entries_bounded : entry_count file ≤ 16
  unfolding entry_count
  entries_bounded = cond-most (table_is_right file) (stated_count file) 16 (λ r. (right r).count_most)

  -- an entry of a right table
  module _ (k : ℕ) (below : k < entry_count file) where
    pub table-right : RightTable
    table-right = right (entry-right k below)

    pub stated-below : k < stated_count file
    stated-below = rw (count-right (entry-right k below)) at below

    -- its bytes are in the file
    pub entry_inside : entry_offset (k + 1) ≤ length file
    entry_inside = omega (arith, table-right.table-inside, stated-below)

    -- its offset is where its body has to start
    pub offset_right : offset_at file k ≡ body_start file k
    unfolding entry_is_right
    offset_right =
        let bytes = leb (get_or file (entry_offset k + 6) 0) 1 && eqb (get_or file (entry_offset k + 7) 0) 0 in
        let offset = eqb (offset_at file k) (body_start file k) in
        let all = all-at (entry_is_right file) (stated_count file) k table-right.entries-right stated-below in
        eqb-true (offset_at file k) (body_start file k) (and_right bytes offset all)

    -- its body is in the file
    pub body-inside : body_start file k + length_at file k ≤ length file
    body-inside =
        let ends = bodies-in-order (k + 1) (stated_count file) (omega (arith, stated-below)) in
        omega (arith, next-body k, ends, table-right.last-ends)

    -- so the part of the file that the entry names is the body
    module _ (e : Entry) (is : e ≡ entry_at file k) where
      start_is : e.start ≡ body_start file k
      unfolding entry_at
      start_is = ap (λ (x : Entry). x.start) is

      size_is : e.size ≡ length_at file k
      unfolding entry_at
      size_is = ap (λ (x : Entry). x.size) is

      pub part-inside : e.start + e.size ≤ length file
      part-inside = omega (arith, start_is, size_is, body-inside)

      pub part-is-body : take (e.start + e.size - e.start) (drop e.start file) ≡ body file k
      unfolding body
      part-is-body =
          let whole : e.start + e.size - e.start ≡ length_at file k = omega (arith, size_is) in
          rw (whole, start_is)
