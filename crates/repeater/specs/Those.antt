-- Which ports a mask is asked of: T, L, those that are partitioned, the TP ports whose link passes, those that are enabled. Assumes nothing.
pub data Those : Type 0 where
  Transmitting : Those
  Listening : Those
  Partitioned : Those
  Linked : Those
  Enabled : Those
