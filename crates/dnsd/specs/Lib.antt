pub mod KeyRights
