use Rattle.std.proofs.Common.{◌≡◌, ◌-◌, ◌<◌, [], ◌∷◌, length, map, Some, None, option_map, string_bytes, sym, ap, ◌∙◌, arith, rules}
use Rattle.json.specs.Json.{parse_map, after_end_array, read_key, items, members, value}
use Rattle.json.specs.Reads.{token_of}
use Rattle.json.proofs.Grammar.{read_key-shorter}
use Rattle.serde_json.specs.Read.{converted}
use Rattle.documents.specs.Json as J
use Rattle.js_json.specs.Reading.{object_of, json_of_tree, items_of_tree, named_of_tree, named_by, put_named}
use Rattle.js_json.proofs.TreeReading.{nothing_taken, array_too_deep, object_too_deep, array_taken, object_taken, scalar_taken, opens_array, opens_object, found_with, made_with, on_ok, object_of-named_by, items_before, items_before-no_items, none_before, one_more_item, item_taken, item_refused, items_over, member_taken, member_refused, key_refused, members_over, named_by-insert_entry}
use Rattle.js_json.proofs.take.+take.Goals as goal

pub take-returns-in_err-token-clause-not_json : goal.take-returns-in_err-token-clause-not_json
take-returns-in_err-token-clause-not_json g t c refused =
    let empty : c.args.reader.now ≡ [] = grind arith in
    ap (λ ts. converted json_of_tree (value c.args.depth ts)) empty ∙ nothing_taken c.args.depth

pub take-returns-in_err-within-in-BeginArray-clause-not_json :
    goal.take-returns-in_err-within-in-BeginArray-clause-not_json
take-returns-in_err-within-in-BeginArray-clause-not_json g t c refused =
    let first : c.args.reader.now ≡ token_of c.in_ok-token.token ∷ c.next.new.self = grind arith in
    array_too_deep c.args.depth c.args.reader.now c.next.new.self c.in_err-within-in-BeginArray.ensures.0
    (first ∙ ap (λ k. token_of k ∷ c.next.new.self) c.in-BeginArray.is)

pub take-returns-in_err-within-in-BeginObject-clause-not_json :
    goal.take-returns-in_err-within-in-BeginObject-clause-not_json
take-returns-in_err-within-in-BeginObject-clause-not_json g t c refused =
    let first : c.args.reader.now ≡ token_of c.in_ok-token.token ∷ c.next.new.self = grind arith in
    object_too_deep c.args.depth c.args.reader.now c.next.new.self c.in_err-within-in-BeginObject.ensures.0
    (first ∙ ap (λ k. token_of k ∷ c.next.new.self) c.in-BeginObject.is)

pub take-returns-in_err-take_items-in-BeginArray-clause-not_json :
    goal.take-returns-in_err-take_items-in-BeginArray-clause-not_json
take-returns-in_err-take_items-in-BeginArray-clause-not_json g t c refused =
    let first : c.args.reader.now ≡ token_of c.in_ok-token.token ∷ c.next.new.self = grind arith in
    array_taken c.args.depth c.args.reader.now c.next.new.self c.in_ok-within-in-BeginArray.within
    c.in_ok-within-in-BeginArray.ensures (first ∙ ap (λ k. token_of k ∷ c.next.new.self) c.in-BeginArray.is)
    ∙ ap (parse_map J.array) (c.take_items.ensures.not_json (grind arith))

pub take-returns-in_err-members-in-BeginObject-clause-not_json :
    goal.take-returns-in_err-members-in-BeginObject-clause-not_json
take-returns-in_err-members-in-BeginObject-clause-not_json g t c refused =
    let first : c.args.reader.now ≡ token_of c.in_ok-token.token ∷ c.next.new.self = grind arith in
    object_taken c.args.depth c.args.reader.now c.next.new.self c.in_ok-within-in-BeginObject.within
    c.in_ok-within-in-BeginObject.ensures (first ∙ ap (λ k. token_of k ∷ c.next.new.self) c.in-BeginObject.is)
    ∙ ap (parse_map object_of) (c.take_members.ensures.not_json (grind arith))

pub take-returns-in_ok-take_items-in-BeginArray-clause-ok :
    goal.take-returns-in_ok-take_items-in-BeginArray-clause-ok
take-returns-in_ok-take_items-in-BeginArray-clause-ok g t c =
    let first : c.args.reader.now ≡ token_of c.in_ok-token.token ∷ c.next.new.self = grind arith in
    let found = c.in_ok-take_items-in-BeginArray in
    array_taken c.args.depth c.args.reader.now c.next.new.self c.in_ok-within-in-BeginArray.within
    c.in_ok-within-in-BeginArray.ensures (first ∙ ap (λ k. token_of k ∷ c.next.new.self) c.in-BeginArray.is)
    ∙ ap (parse_map J.array) found.ensures.ok
    ∙ ap (λ d. Some (d, c.take_items.new.reader)) (sym c.array.ensures)

pub take-returns-in_ok-members-in-BeginObject-clause-ok : goal.take-returns-in_ok-members-in-BeginObject-clause-ok
take-returns-in_ok-members-in-BeginObject-clause-ok g t c =
    let first : c.args.reader.now ≡ token_of c.in_ok-token.token ∷ c.next.new.self = grind arith in
    let found = c.in_ok-members-in-BeginObject in
    made_with g.M.Made.json c.object.result _ _ c.take_members.new.reader
    (object_taken c.args.depth c.args.reader.now c.next.new.self c.in_ok-within-in-BeginObject.within
    c.in_ok-within-in-BeginObject.ensures (first ∙ ap (λ k. token_of k ∷ c.next.new.self) c.in-BeginObject.is)
    ∙ ap (parse_map object_of) found.ensures.ok
    ∙ ap (λ d. Some (d, c.take_members.new.reader)) (object_of-named_by g.M.Made.json found.members.entries))
    c.object.ensures.ok

pub take-returns-in_default : goal.take-returns-in_default
take-returns-in_default g t c =
    let r = c.next.new.self in
    let first : c.args.reader.now ≡ token_of c.in_ok-token.token ∷ r = grind arith in
    let taken =
    scalar_taken c.args.depth c.args.reader.now r (token_of c.in_ok-token.token) first
    (λ e. c.in_default.not-BeginArray (opens_array c.in_ok-token.token e))
    (λ e. c.in_default.not-BeginObject (opens_object c.in_ok-token.token e)) in
    record {
      ok = found_with g.M.Made.json c.scalar.result _ _ r taken c.scalar.ensures.ok;
      shorter = on_ok c.scalar.result (omega (arith, ap length first));
      not_json = λ e. taken ∙ ap (option_map (λ j. (j, r))) (c.scalar.ensures.not_json e);
      any_number = c.scalar.ensures.any_number;
    }

pub take_items-items-init : goal.take_items-items-init
take_items-items-init g t c =
    let all = converted items_of_tree (items (value c.args.depth) (length c.args.reader.now) c.args.reader.now) in (
      length c.args.reader.now,
      omega arith,
      none_before all ∙ ap (λ vs. parse_map (items_before g.M.Made.json vs) all) (sym c.new-found.ensures.items),
      omega arith,
    )

pub take_items-returns-in_err-item-clause-not_json : goal.take_items-returns-in_err-item-clause-not_json
take_items-returns-in_err-item-clause-not_json g t c refused =
    let p = value c.args.depth in
    let l = c.items in
    let n = l.invariant.0 in
    let going : (after_end_array l.reader ≡ None) × (c.take_end_array.new.self ≡ l.reader) = grind arith in
    l.invariant.2
    ∙ ap (parse_map (items_before g.M.Made.json l.found.items))
    (item_refused p n l.reader going.0 (rw (← going.1) (c.take.ensures.not_json (grind arith))))

pub take_items-items-preserved : goal.take_items-items-preserved
take_items-items-preserved g t c =
    let p = value c.args.depth in
    let l = c.items in
    let n = l.invariant.0 in
    let going : (after_end_array l.reader ≡ None) × (c.take_end_array.new.self ≡ l.reader) = grind arith in
    let done = c.in_ok-item.ensures in
    let v = c.in_ok-item.item in
    let r = c.take.new.reader in
    let less : length r < length l.reader = rw (← going.1) done.shorter in
    let turn =
    item_taken p n l.reader r (g.M.Made.json v) (omega (arith, l.invariant.1)) going.0 (rw (← going.1) done.ok) in (
      n - 1,
      omega (arith, l.invariant.1),
      l.invariant.2 ∙ ap (parse_map (items_before g.M.Made.json l.found.items)) turn
          ∙ one_more_item g.M.Made.json l.found.items v _
          ∙ ap (λ vs. parse_map (items_before g.M.Made.json vs) (converted items_of_tree (items p (n - 1) r)))
          (sym c.in_ok-push.ensures.items),
      omega (arith, l.invariant.3),
    )

pub take_items-returns-clause-ok : goal.take_items-returns-clause-ok
take_items-returns-clause-ok g t c =
    let p = value c.args.depth in
    let l = c.items in
    let n = l.invariant.0 in
    let r = c.take_end_array.new.self in
    l.invariant.2
    ∙ ap (parse_map (items_before g.M.Made.json l.found.items)) (items_over p n l.reader r l.invariant.1 (grind arith))
    ∙ ap (λ ds. Some (ds, r)) (items_before-no_items g.M.Made.json l.found.items)

pub take_members-members-init : goal.take_members-members-init
take_members-members-init g t c =
    let all = members (value c.args.depth) (length c.args.reader.now) c.args.reader.now in (
      length c.args.reader.now,
      omega arith,
      ap (λ es. converted (λ ms. named_of_tree ms (map (named_by g.M.Made.json) es)) all)
          (sym c.new-found.ensures.empty),
      omega arith,
    )

pub take_members-returns-in_err-name-clause-not_json : goal.take_members-returns-in_err-name-clause-not_json
take_members-returns-in_err-name-clause-not_json g t c refused =
    let p = value c.args.depth in
    let l = c.members in
    let n = l.invariant.0 in
    l.invariant.2 ∙ key_refused p (map (named_by g.M.Made.json) l.found.entries) n l.reader c.in_err-name.ensures.value

pub take_members-returns-in_err-member-clause-not_json : goal.take_members-returns-in_err-member-clause-not_json
take_members-returns-in_err-member-clause-not_json g t c refused =
    let p = value c.args.depth in
    let l = c.members in
    let n = l.invariant.0 in
    let k = c.in-Some.name.now in
    let s = c.next_key.new.self in
    let named : read_key l.reader ≡ Some (Some k, s) = grind arith in
    l.invariant.2
    ∙ member_refused p (map (named_by g.M.Made.json) l.found.entries) n k l.reader s named
    (c.take.ensures.not_json (grind arith))

pub take_members-members-preserved : goal.take_members-members-preserved
take_members-members-preserved g t c =
    let p = value c.args.depth in
    let l = c.members in
    let n = l.invariant.0 in
    let old = map (named_by g.M.Made.json) l.found.entries in
    let k = c.in-Some.name.now in
    let s = c.next_key.new.self in
    let named : read_key l.reader ≡ Some (Some k, s) = grind arith in
    let done = c.in_ok-member.ensures in
    let v = c.in_ok-member.member in
    let r = c.take.new.reader in
    let less = read_key-shorter l.reader (Some k) s named in
    let lesser = done.shorter in
    let copied : string_bytes c.in_ok-key.key ≡ k = search rules in
    let inserted : map (named_by g.M.Made.json) c.insert.new.self.entries ≡ put_named k (g.M.Made.json v) old =
    ap (map (named_by g.M.Made.json)) c.in_ok-insert.ensures.entries
    ∙ named_by-insert_entry g.M.Made.json l.found.entries c.in_ok-key.key v
    ∙ ap (λ name. put_named name (g.M.Made.json v) old) copied in (
      n - 1,
      omega (arith, l.invariant.1),
      l.invariant.2 ∙ member_taken p old n k l.reader s r (g.M.Made.json v) (omega (arith, l.invariant.1)) named done.ok
          ∙ ap (λ found. converted (λ ms. named_of_tree ms found) (members p (n - 1) r)) (sym inserted),
      omega (arith, l.invariant.3),
    )

pub take_members-returns-clause-ok : goal.take_members-returns-clause-ok
take_members-returns-clause-ok g t c =
    let p = value c.args.depth in
    let l = c.members in
    let n = l.invariant.0 in
    l.invariant.2
    ∙ members_over p (map (named_by g.M.Made.json) l.found.entries) n l.reader c.next_key.new.self l.invariant.1
    (grind arith)
