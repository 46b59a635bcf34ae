use Rattle.sb_main.proofs.complaints.complain.Goals as goal

pub returns-in-Ok : goal.returns-in-Ok
returns-in-Ok g c = record {
  text = c.as_bytes.result.now;
  is = rw c.as_bytes.ensures.value c.in-Ok.ensures.message;
  put = c.put_once.ensures;
}
