use Rattle.ic_tree.proofs.state.+forked_requests.Given as goal

abbrev pub decreases-forked_requests : goal.decreases-forked_requests
decreases-forked_requests l = l.count
