use Rattle.std.specs.Result.{is_ok}
use Rattle.js_asked.proofs.Wishing.{wished_either, wished_atoms, wished_words}
use Rattle.js_asked.proofs.wish.Asked.wish.Goals as goal

pub invariant_of-self-2 : goal.invariant_of-self-2
invariant_of-self-2 c = record {
  within = wished_either c.args.self.now.atoms.keys c.insert_full.new.self.keys c.args.self.now.wishes.items
      c.push.new.self.items c.args.atom (record { atom = c.in_ok-place.place; truth = c.args.truth })
      (is_ok c.push.result)
      c.in_ok-place.ensures.keys c.push.ensures.items c.args.self.now.within c.in_ok-place.ensures.stored;
}

pub returns-clause-atoms : goal.returns-clause-atoms
returns-clause-atoms c = wished_atoms c.args.self.now.atoms.keys c.insert_full.new.self.keys
    c.args.self.now.wishes.items
    c.push.new.self.items c.args.atom (record { atom = c.in_ok-place.place; truth = c.args.truth })
    c.in_ok-place.ensures.keys c.in_ok-push.ensures.items c.args.self.now.within c.in_ok-place.ensures.stored

pub returns-clause-words : goal.returns-clause-words
returns-clause-words c = wished_words c.args.self.now.atoms.keys c.insert_full.new.self.keys
    c.args.self.now.wishes.items
    c.push.new.self.items c.args.atom (record { atom = c.in_ok-place.place; truth = c.args.truth })
    c.in_ok-place.ensures.keys c.in_ok-push.ensures.items c.args.self.now.within c.in_ok-place.ensures.stored
