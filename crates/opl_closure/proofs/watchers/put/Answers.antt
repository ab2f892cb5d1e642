use Rattle.opl_closure.proofs.Waking.{put_last, put_before}
use Rattle.opl_closure.proofs.watchers.put.Goals as goal

pub returns : goal.returns
returns c = record {
  kept = λ j l h. rw c.in_ok-push.ensures.items (put_before c.pop_from.new.list.items c.args.i j (c.pop_from.ensures j l h));
  ok = rw c.in_ok-push.ensures.items (put_last c.pop_from.new.list.items c.args.i);
}
