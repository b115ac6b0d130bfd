-- Threads may send and share core tables. Of types that hold a pattern's tree this is shown here, each by its fields,
-- since a check finds it by itself only of types that don't reach a type that holds itself.
use denote.Hole.{as_row}
use denote.Param.Send.{IsSend, IsSync, sendable, view_send, view_sync}
use denote.Param.SendFields.{as_row_send, as_row_sync, declared_send, declared_sync, variants_send, variants_sync}
use denote.RattleType.{RattleType}
use denote.Struct.Field.{bool-field, i128-field, u64-field}
use Rattle.std.proofs.Crossing.{crosses, Vec-send, Vec-sync}
use Rattle.std.specs.contracts.alloc.Global as Heap
use Rattle.std.specs.contracts.impls.GlobalAllocator.TheImpl.{ghosts}
use Rattle.std.specs.contracts.vec.Vec as C-Vec
use Rattle.js_pattern.proofs.char_set.CharSet.TheSendSync as CharSet
use Rattle.js_pattern.specs.contracts.re.Re as C-Re
use Rattle.js_pattern.proofs.re.Re.TheLaws.TheKnot as knot
use Rattle.js_doc.proofs.text.Str.TheSendSync as Str
use Rattle.js_doc.proofs.lists.StrList.TheSendSync as StrList
use Rattle.js_doc.proofs.numbers.NumList.TheSendSync as NumList
use Rattle.js_doc.specs.contracts.text.Str as C-Str
use Rattle.js_doc.specs.contracts.lists.StrList as C-StrList
use Rattle.js_doc.specs.contracts.numbers.NumList as C-NumList
use Rattle.js_algebra.proofs.node.Pos.TheSendSync as Pos
use Rattle.js_algebra.proofs.lists.PosList.TheSendSync as PosList
use Rattle.js_algebra.proofs.lists.KindList.TheSendSync as KindList
use Rattle.js_algebra.proofs.lists.RankList.TheSendSync as RankList
use Rattle.js_algebra.proofs.signed.Signed.TheSendSync as Signed
use Rattle.js_algebra.specs.contracts.lists.PosList as C-PosList
use Rattle.js_algebra.specs.contracts.lists.KindList as C-KindList
use Rattle.js_algebra.specs.contracts.lists.RankList as C-RankList
use Rattle.js_algebra.specs.contracts.lists.PatternList as C-PatternList
use Rattle.js_algebra.specs.contracts.lists.PatternList.TheInside as C-PatternList-Inside
use Rattle.js_algebra.specs.contracts.lists.NodeList as C-NodeList
use Rattle.js_algebra.specs.contracts.lists.NodeList.TheInside as C-NodeList-Inside
use Rattle.js_algebra.specs.contracts.names.Pattern as C-Pattern
use Rattle.js_algebra.specs.contracts.names.NameSet as C-NameSet
use Rattle.js_algebra.specs.contracts.node.Node as C-Node
use Rattle.js_algebra.specs.contracts.signed.Signed as C-Signed
use Rattle.js_algebra.specs.contracts.table.Core as C-Core
use Rattle.js_algebra.specs.contracts.table.Core.TheInside as C-Core-Inside

-- a list of values that have it
Vec_field-send : (T : RattleType) → IsSend T → IsSend (as_row (C-Vec.the_field T Heap.the_row ghosts))
Vec_field-send T s = as_row_send (C-Vec.the_field T Heap.the_row ghosts) (Vec-send T s)

Re-send : IsSend (as_row C-Re.the_field)
Re-send =
    let row : IsSend (C-Re.the_field).row = search (sendable, crosses, knot.send-Re, CharSet.the_send) depth 30 in
    as_row_send C-Re.the_field row

Pattern-send : IsSend C-Pattern.the_row
Pattern-send = declared_send C-Pattern.the_type (as_row_send C-Str.the_field Str.the_send, (Re-send, tt))

PatternList-send : IsSend C-PatternList.the_row
PatternList-send =
    view_send _ _ _ _ _ (declared_send C-PatternList-Inside.the_type (Vec_field-send C-Pattern.the_row Pattern-send, tt))

NameSet-send : IsSend C-NameSet.the_row
NameSet-send =
    let str = as_row_send C-Str.the_field Str.the_send in
    let strs = as_row_send C-StrList.the_field StrList.the_send in
    let patterns = as_row_send C-PatternList.the_field PatternList-send in
    variants_send C-NameSet.enum ((str, tt), ((Pattern-send, tt), ((strs, (patterns, tt)), tt)))

-- the kinds of node in their order, each with its fields
Node-send : IsSend C-Node.the_row
Node-send =
    let pos = Pos.the_send in
    let places = as_row_send C-PosList.the_field PosList.the_send in
    let kinds = as_row_send C-KindList.the_field KindList.the_send in
    let bool : IsSend (as_row bool-field) = search sendable depth 20 in
    let i128 : IsSend (as_row i128-field) = search sendable depth 20 in
    let u64 : IsSend (as_row u64-field) = search sendable depth 20 in
    let nums = as_row_send C-NumList.the_field NumList.the_send in
    let strs = as_row_send C-StrList.the_field StrList.the_send in
    let str = as_row_send C-Str.the_field Str.the_send in
    variants_send C-Node.enum (
      tt,
      (
        tt,
        (
          (pos, tt),
          (
            (pos, tt),
            (
              (places, tt),
              (
                (places, tt),
                (
                  (places, tt),
                  (
                    (pos, (pos, tt)),
                    (
                      (kinds, tt),
                      (
                        (bool, tt),
                        (
                          (i128, tt),
                          (
                            (i128, tt),
                            (
                              (u64, tt),
                              (
                                (nums, tt),
                                (
                                  (strs, tt),
                                  (
                                    (Pattern-send, tt),
                                    (
                                      (u64, tt),
                                      (
                                        (u64, tt),
                                        (
                                          (places, (pos, tt)),
                                          (
                                            (pos, tt),
                                            (
                                              (u64, tt),
                                              (
                                                (u64, tt),
                                                ((NameSet-send, (pos, tt)), ((str, tt), ((u64, tt), ((u64, tt), ((pos, tt), tt))))),
                                              ),
                                            ),
                                          ),
                                        ),
                                      ),
                                    ),
                                  ),
                                ),
                              ),
                            ),
                          ),
                        ),
                      ),
                    ),
                  ),
                ),
              ),
            ),
          ),
        ),
      ),
    )

NodeList-send : IsSend C-NodeList.the_row
NodeList-send =
    view_send _ _ _ _ _ (declared_send C-NodeList-Inside.the_type (Vec_field-send C-Node.the_row Node-send, tt))

pub Core-send : IsSend C-Core.the_row
Core-send =
    let nodes = as_row_send C-NodeList.the_field NodeList-send in
    let ranks = as_row_send C-RankList.the_field RankList.the_send in
    let ends = Vec_field-send C-Signed.the_row Signed.the_send in
    view_send _ _ _ _ _ (declared_send C-Core-Inside.the_type (nodes, (ranks, (ends, tt))))

-- a list of values that have it
Vec_field-sync : (T : RattleType) → IsSync T → IsSync (as_row (C-Vec.the_field T Heap.the_row ghosts))
Vec_field-sync T s = as_row_sync (C-Vec.the_field T Heap.the_row ghosts) (Vec-sync T s)

Re-sync : IsSync (as_row C-Re.the_field)
Re-sync =
    let row : IsSync (C-Re.the_field).row = search (sendable, crosses, knot.sync-Re, CharSet.the_sync) depth 30 in
    as_row_sync C-Re.the_field row

Pattern-sync : IsSync C-Pattern.the_row
Pattern-sync = declared_sync C-Pattern.the_type (as_row_sync C-Str.the_field Str.the_sync, (Re-sync, tt))

PatternList-sync : IsSync C-PatternList.the_row
PatternList-sync =
    view_sync _ _ _ _ _ (declared_sync C-PatternList-Inside.the_type (Vec_field-sync C-Pattern.the_row Pattern-sync, tt))

NameSet-sync : IsSync C-NameSet.the_row
NameSet-sync =
    let str = as_row_sync C-Str.the_field Str.the_sync in
    let strs = as_row_sync C-StrList.the_field StrList.the_sync in
    let patterns = as_row_sync C-PatternList.the_field PatternList-sync in
    variants_sync C-NameSet.enum ((str, tt), ((Pattern-sync, tt), ((strs, (patterns, tt)), tt)))

-- the kinds of node in their order, each with its fields
Node-sync : IsSync C-Node.the_row
Node-sync =
    let pos = Pos.the_sync in
    let places = as_row_sync C-PosList.the_field PosList.the_sync in
    let kinds = as_row_sync C-KindList.the_field KindList.the_sync in
    let bool : IsSync (as_row bool-field) = search sendable depth 20 in
    let i128 : IsSync (as_row i128-field) = search sendable depth 20 in
    let u64 : IsSync (as_row u64-field) = search sendable depth 20 in
    let nums = as_row_sync C-NumList.the_field NumList.the_sync in
    let strs = as_row_sync C-StrList.the_field StrList.the_sync in
    let str = as_row_sync C-Str.the_field Str.the_sync in
    variants_sync C-Node.enum (
      tt,
      (
        tt,
        (
          (pos, tt),
          (
            (pos, tt),
            (
              (places, tt),
              (
                (places, tt),
                (
                  (places, tt),
                  (
                    (pos, (pos, tt)),
                    (
                      (kinds, tt),
                      (
                        (bool, tt),
                        (
                          (i128, tt),
                          (
                            (i128, tt),
                            (
                              (u64, tt),
                              (
                                (nums, tt),
                                (
                                  (strs, tt),
                                  (
                                    (Pattern-sync, tt),
                                    (
                                      (u64, tt),
                                      (
                                        (u64, tt),
                                        (
                                          (places, (pos, tt)),
                                          (
                                            (pos, tt),
                                            (
                                              (u64, tt),
                                              (
                                                (u64, tt),
                                                ((NameSet-sync, (pos, tt)), ((str, tt), ((u64, tt), ((u64, tt), ((pos, tt), tt))))),
                                              ),
                                            ),
                                          ),
                                        ),
                                      ),
                                    ),
                                  ),
                                ),
                              ),
                            ),
                          ),
                        ),
                      ),
                    ),
                  ),
                ),
              ),
            ),
          ),
        ),
      ),
    )

NodeList-sync : IsSync C-NodeList.the_row
NodeList-sync =
    view_sync _ _ _ _ _ (declared_sync C-NodeList-Inside.the_type (Vec_field-sync C-Node.the_row Node-sync, tt))

-- threads may share a core table
pub Core-sync : IsSync C-Core.the_row
Core-sync =
    let nodes = as_row_sync C-NodeList.the_field NodeList-sync in
    let ranks = as_row_sync C-RankList.the_field RankList.the_sync in
    let ends = Vec_field-sync C-Signed.the_row Signed.the_sync in
    view_sync _ _ _ _ _ (declared_sync C-Core-Inside.the_type (nodes, (ranks, (ends, tt))))
