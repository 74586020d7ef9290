-- `skip`: each of its calls is the one of `search`, with the answers of the three tests that lead to it. Assumes nothing.
use Rattle.std.proofs.Common.{true, false, rules}
use Rattle.pieces.proofs.Eight.{called-as}
use Rattle.pieces.proofs.places.Places.skip.Goals as goal

pub returns-in-true-true-true : goal.returns-in-true-true-true
returns-in-true-true-true g c =
    let found = c.search.ensures in
    search (rules, called-as c.args.self.now true true true c.in-true-true-true.is-1 c.in-true-true-true.is-2 c.in-true-true-true.is-0, found)

pub returns-in-true-true-false : goal.returns-in-true-true-false
returns-in-true-true-false g c =
    let found = c.search-in-true-true-false.ensures in
    search (rules, called-as c.args.self.now true true false c.in-true-true-false.is-1 c.in-true-true-false.is-2 c.in-true-true-false.is-0, found)

pub returns-in-true-false-true : goal.returns-in-true-false-true
returns-in-true-false-true g c =
    let found = c.search-in-true-false-true.ensures in
    search (rules, called-as c.args.self.now true false true c.in-true-false-true.is-1 c.in-true-false-true.is-2 c.in-true-false-true.is-0, found)

pub returns-in-true-false-false : goal.returns-in-true-false-false
returns-in-true-false-false g c =
    let found = c.search-in-true-false-false.ensures in
    search (rules, called-as c.args.self.now true false false c.in-true-false-false.is-1 c.in-true-false-false.is-2 c.in-true-false-false.is-0, found)

pub returns-in-false-true-true : goal.returns-in-false-true-true
returns-in-false-true-true g c =
    let found = c.search-in-false-true-true.ensures in
    search (rules, called-as c.args.self.now false true true c.in-false-true-true.is-1 c.in-false-true-true.is-2 c.in-false-true-true.is-0, found)

pub returns-in-false-true-false : goal.returns-in-false-true-false
returns-in-false-true-false g c =
    let found = c.search-in-false-true-false.ensures in
    search (rules, called-as c.args.self.now false true false c.in-false-true-false.is-1 c.in-false-true-false.is-2 c.in-false-true-false.is-0, found)

pub returns-in-false-false-true : goal.returns-in-false-false-true
returns-in-false-false-true g c =
    let found = c.search-in-false-false-true.ensures in
    search (rules, called-as c.args.self.now false false true c.in-false-false-true.is-1 c.in-false-false-true.is-2 c.in-false-false-true.is-0, found)

pub returns-in-false-false-false : goal.returns-in-false-false-false
returns-in-false-false-false g c =
    let found = c.search-in-false-false-false.ensures in
    search (rules, called-as c.args.self.now false false false c.in-false-false-false.is-1 c.in-false-false-false.is-2 c.in-false-false-false.is-0, found)
